-- A list read from its end: the part that is left to read.
use Prim.Native.Nat.{ℕ, suc, ◌≤◌}
use native.Mathlib.Omega.{arith}
use mathlib.Core.Path.{◌≡◌, ap, sym, ◌∙◌}
use mathlib.Core.List.{List, [], ◌∷◌, ◌++◌}
use lib.ListN.{length, get_or, take, length-append}
use lib.Seq.{take_all, take-take, take-append_seam}
use Rattle.std.proofs.lemmas.Grind.{common_steps}

pub record Unread (all left : List ℕ) : Type 0 where
  pub front : left ≡ take (length left) all
  pub within : length left ≤ length all

pub all_unread : (all : List ℕ) → Unread all all
all_unread all = record { front = sym (take_all (length all) all (omega arith)); within = omega arith }

-- the last of them is read
module _ {all left : List ℕ} (left' : List ℕ) (x : ℕ) (u : Unread all left) (e : left ≡ left' ++ x ∷ []) where
  pub fewer : length left ≡ suc (length left')
  fewer = rw e (simp length-append (omega arith))

  pub is_read : get_or all (length left') 0 ≡ x
  is_read = grind (arith, common_steps, u.front, fewer)

  pub unread_less : Unread all left'
  unread_less = record {
    front =
        sym (take-append_seam left' (x ∷ [])) ∙ ap (take (length left')) (sym e ∙ u.front)
        ∙ take-take (length left') (length left) all (omega (arith, fewer));
    within = omega (arith, fewer, u.within);
  }
