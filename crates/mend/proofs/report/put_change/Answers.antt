use Rattle.std.proofs.Common.{◌≡◌, ◌+◌, ◌-◌, ◌/◌, ◌%◌, [], ◌∷◌, ◌++◌, length, take, drop, refl, sym, ap, ap₂, ◌∙◌, append_assoc, arith}
use lib.Seq.{drop-drop}
use Rattle.text.specs.Buffer.{put}
use Rattle.text.proofs.Buffer.{start}
use Rattle.mend.specs.declared.change.Change.{Change}
use Rattle.mend.specs.declared.change.Change.TheVariants.{Cleared, Emptied, Raised, Dropped, Recounted, MoreBytes}
use Rattle.mend.specs.Parts.{code_of}
use Rattle.mend.proofs.Codes.{change_made, change-none}
use Rattle.mend.proofs.report.put_change.Goals as goal

-- a code is a byte
code_byte : (kind : Change) → code_of kind % 256 ≡ code_of kind
code_byte Cleared = refl
code_byte Emptied = refl
code_byte Raised = refl
code_byte Dropped = refl
code_byte Recounted = refl
code_byte MoreBytes = refl

pub slice_bounds-copy_from_slice-end : goal.slice_bounds-copy_from_slice-end
slice_bounds-copy_from_slice-end c =
    let a = c.args in
    omega (arith, ap length (change_made a.made a.index (code_of a.kind) c.if-made.true))

pub returns-then-made : goal.returns-then-made
unfolding put
returns-then-made c =
    let a = c.args in
    let report = a.report.now in
    let bytes : c.copy_from_slice.new.self ≡ (a.index / 256 % 256) ∷ (a.index % 256) ∷ (code_of a.kind % 256) ∷ [] =
    rw (c.copy_from_slice.ensures.after, c.to_be_bytes-line.ensures, c.code.ensures, code_byte a.kind) refl in
    let rest : a.at + 3 - a.at ≡ 3 = omega arith in
    let parts = ap₂ (λ l r. take a.at report ++ (l ++ r)) bytes (ap (λ k. drop k (drop a.at report)) rest ∙ drop-drop 3 a.at report) in
    rw (change_made a.made a.index (code_of a.kind) c.if-made.true)
    record { place = refl; bytes = parts ∙ sym (append_assoc (take a.at report) _ (drop (a.at + 3) report)) }

pub returns : goal.returns
returns c = let a = c.args in rw (change-none a.made a.index (code_of a.kind) c.if-made.false) start
