-- Texts of which a stream got a beginning.
use Rattle.std.proofs.Common.{arith}
use Rattle.std.specs.Prelude.{ℕ, ◌+◌, ◌≤◌, List, [], ◌++◌, length, take, drop, Option}
use Rattle.std.specs.List.{between}
use Rattle.std.specs.Io.KnownBytes.{Appends, Keeps}
use Rattle.std.proofs.KnownBytes.{Appends-nil, Appends-trans, Appends-kept}
use Rattle.std.proofs.lemmas.List.{take-append-drop}
use Rattle.std.proofs.lemmas.List.Edits.{length-between}
use Rattle.std.proofs.lemmas.Slice.{between_to_end}
use Rattle.std.proofs.Math.Nat.{le_refl}
use Rattle.std.proofs.Math.Seq.{take-add}
use mathlib.Core.Path.{refl, sym, ap, ◌∙◌, subst}
use mathlib.Core.List.{append-nil, append_assoc}
use Rattle.tipshare_run.specs.Run.{Begun}

pub begun_none : (a : Option (List ℕ)) (text : List ℕ) → Begun a a text
begun_none a text = ([], text, refl, Appends-nil a)

pub begun_whole : (a b : Option (List ℕ)) (text : List ℕ) → Appends a b text → Begun a b text
begun_whole a b text h = (text, [], sym (append-nil text), h)

pub begun_to : (a b : Option (List ℕ)) (text : List ℕ) (d : ℕ) → Appends a b (take d text) → Begun a b text
begun_to a b text d h = (take d text, drop d text, sym (take-append-drop d text), h)

-- the first of two texts
pub begun_first : (a b : Option (List ℕ)) (xs ys : List ℕ) → Begun a b xs → Begun a b (xs ++ ys)
begun_first a b xs ys h = (h.0, h.1 ++ ys, ap (λ l. l ++ ys) h.2 ∙ append_assoc h.0 h.1 ys, h.3)

-- the first of two texts whole, and the second begun
pub begun_second : (a b c : Option (List ℕ)) (xs ys : List ℕ) → Appends a b xs → Begun b c ys → Begun a c (xs ++ ys)
begun_second a b c xs ys g h = (xs ++ h.0, h.1, ap (λ l. xs ++ l) h.2 ∙ sym (append_assoc xs h.0 h.1), Appends-trans a b c xs h.0 g h.3)

-- n more bytes of the part from place d on
pub grown : (a b c : Option (List ℕ)) (text : List ℕ) (d n : ℕ) → Appends a b (take d text) → Appends b c (take n (between d (length text) text))
    → Appends a c (take (d + n) text)
grown a b c text d n g h =
    let more = subst (λ l. Appends b c (take n l)) (between_to_end text d (length text) (le_refl (length text))) h in
    subst (Appends a c) (sym (take-add d n text)) (Appends-trans a b c (take d text) (take n (drop d text)) g more)

-- which the text has
pub grown_within : (text : List ℕ) (d n : ℕ) → d ≤ length text → n ≤ length (between d (length text) text) → d + n ≤ length text
grown_within text d n g h =
    let left = subst (λ k. n ≤ k) (length-between text d (length text) (le_refl (length text))) h in
    omega (arith, left, g)

-- known bytes that stay
pub whole_kept : (a b c : Option (List ℕ)) (text : List ℕ) → Appends a b text → Keeps b c → Appends a c text
whole_kept a b c text g h = Appends-kept a b c text g h

pub begun_kept : (a b c : Option (List ℕ)) (text : List ℕ) → Begun a b text → Keeps b c → Begun a c text
begun_kept a b c text g h = (g.0, g.1, g.2, Appends-kept a b c g.0 g.3 h)
