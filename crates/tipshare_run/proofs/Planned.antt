-- The text for what is read, printed into a buffer.
use mathlib.Core.Path.{refl, sym, ap, ◌∙◌, subst}
use lib.Seq.{take_all}
use native.Mathlib.Nat.{min-le_left}
use Rattle.std.specs.Prelude.{ℕ, ◌≡◌, ⊤, List, [], ◌++◌, length, take, replicate, Option, None, Some, option_map, IfSome, OnOk, Result, Ok, Err}
use Rattle.std.specs.Io.KnownBytes.{Appends}
use Rattle.std.proofs.lemmas.List.{length-take, length-replicate, take_at}
use Rattle.text.specs.Buffer.{Printed}
use Rattle.file_report.specs.Summary.{text_of, text_room, taken_bytes, summary_of}
use Rattle.tipshare_run.specs.Run.{planned, Begun}

take_twice : (n : ℕ) (xs : List ℕ) → take n (take n xs) ≡ take n xs
take_twice n xs = take_all n (take n xs) (rw (length-take n xs) (min-le_left _ _))

filled_by : (known : Option (List ℕ)) (limit : ℕ) (before items : List ℕ) → limit ≡ taken_bytes → before ≡ []
    → IfSome (option_map (take limit) known) (λ xs. items ≡ before ++ xs) → IfSome known (λ xs. items ≡ take taken_bytes xs)
filled_by None limit before items l b h = tt
filled_by (Some xs) limit before items l b h = h ∙ ap (λ s. s ++ take limit xs) b ∙ ap (λ n. take n xs) l

-- what a reader of so many bytes gave is the beginning of the input
pub filled : {R : Type 0} (f : R → Option (List ℕ)) (inner input : R) (limit : ℕ) (before items : List ℕ) → inner ≡ input → limit ≡ taken_bytes
    → before ≡ [] → IfSome (option_map (take limit) (f inner)) (λ xs. items ≡ before ++ xs) → IfSome (f input) (λ xs. items ≡ take taken_bytes xs)
filled f inner input limit before items e l b h =
    filled_by (f input) limit before items l b (subst (λ r. IfSome (option_map (take limit) (f r)) (λ xs. items ≡ before ++ xs)) e h)

summary_read : (file : List ℕ) → summary_of file text_room ≡ text_of (take taken_bytes file)
unfolding summary_of
summary_read file = refl

text_is : (known : Option (List ℕ)) (items text : List ℕ) → IfSome known (λ xs. items ≡ take taken_bytes xs)
    → text ≡ text_of (take taken_bytes items) → IfSome (planned known) (λ t. text ≡ t)
text_is None items text h e = tt
text_is (Some xs) items text h e = e ∙ ap text_of (ap (take taken_bytes) h ∙ take_twice taken_bytes xs)

-- the buffer as it is made
abbrev blank : List ℕ
blank = replicate text_room 0

-- the printed bytes are the text for the input, of which the file is what was read
pub printed_is : (known : Option (List ℕ)) (items file out : List ℕ) (size : ℕ) → IfSome known (λ xs. items ≡ take taken_bytes xs)
    → file ≡ items → Printed (summary_of file (length blank)) blank size out → IfSome (planned known) (λ t. take size out ≡ t)
printed_is known items file out size h v p =
    text_is known file (take size out) (subst (λ l. IfSome known (λ xs. l ≡ take taken_bytes xs)) (sym v) h)
    (ap (take size) p.bytes ∙ take_at _ _ size (sym p.size) ∙ ap (summary_of file) (length-replicate {A = ℕ} text_room 0) ∙ summary_read file)

pub planned_whole : {E : Type 0} (r : Result ⊤ E) (known a b : Option (List ℕ)) (text : List ℕ) → IfSome known (λ t. text ≡ t)
    → OnOk r (Appends a b text) → OnOk r (IfSome known (Appends a b))
planned_whole (Ok x) None a b text e h = tt
planned_whole (Ok x) (Some t) a b text e h = subst (Appends a b) e h
planned_whole (Err x) known a b text e h = tt

pub planned_begun : (known a b : Option (List ℕ)) (text : List ℕ) → IfSome known (λ t. text ≡ t) → Begun a b text → IfSome known (Begun a b)
planned_begun None a b text e h = tt
planned_begun (Some t) a b text e h = subst (Begun a b) e h
