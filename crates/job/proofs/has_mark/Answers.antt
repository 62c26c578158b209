use mathlib.Core.Path.{◌≡◌, refl, sym, ap, ◌∙◌}
use Rattle.std.proofs.Common.{ℕ, List, [], ◌∷◌, ◌++◌, drop, eqb, take-append-drop}
use Rattle.std.proofs.lemmas.Bool.Decides.{Decides-eqb}
use Rattle.std.proofs.lemmas.Slice.Eq.{starts_is}
use lib.Dec.{eqb→eq}
use native.Mathlib.Omega.{arith}
use Rattle.model.proofs.Lists.{all_get_d}
use Rattle.model.proofs.Tests.{T_true, true_T, eqb_T, same_test}
use Rattle.job.specs.Job.{Bytes, bytes_of, number_of, number_at, mark, mark_in}
use Rattle.job.proofs.Numbers.{bytes_at}
use Rattle.job.proofs.has_mark.Goals as goal

abbrev letters : List ℕ
letters = 84 ∷ 73 ∷ 80 ∷ []

-- the number of a file that begins with the letters
marked : (rest : List ℕ) → mark_in (letters ++ rest) ≡ mark
unfolding number_at number_of
marked rest = refl

letters_of : bytes_of 3 mark ≡ letters
unfolding bytes_of
letters_of = refl

pub returns : goal.returns
returns c =
    let file = c.args.file.now in
    let bytes : Bytes file = all_get_d 0 file (λ i l. (c.type_inv.file i).fits) in
    let begins = starts_is Decides-eqb file letters c.starts_with.result c.starts_with.ensures.value in
    same_test c.starts_with.result (eqb (mark_in file) mark)
    (λ t. eqb_T _ _ (ap mark_in (begins.0 (true_T _ t)) ∙ marked (drop 3 file)))
    (λ t. let front = sym letters_of ∙ ap (bytes_of 3) (sym (eqb→eq (mark_in file) mark t)) ∙ bytes_at 3 file 0 bytes (omega arith) in
    T_true (begins.1 (drop 3 file) (sym (take-append-drop 3 file) ∙ ap (λ l. l ++ drop 3 file) (sym front))))
