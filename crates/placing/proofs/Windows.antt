-- The parts taken into flat arrays, and the search over them, which finds the placing order.
use Prim.Native.Nat.{ℕ, ◌+◌, ◌≤◌, ◌<◌}
use native.Mathlib.Omega.{arith}
use mathlib.Core.Path.{◌≡◌, ap, sym, ◌∙◌}
use mathlib.Core.Logic.{⊎_elim}
use mathlib.Core.Bool.{not, cond}
use mathlib.Core.List.{List}
use mathlib.Core.Option.{none, some}
use mathlib.Core.Option as M
use lib.Dec.{T}
use lib.ListN.{length, get_or, take, set}
use lib.Seq.{get_or-set_same, get_or-set_other}
use Rattle.std.proofs.Common as R
use Rattle.std.proofs.Common.{IfSome, IfNone}
use Rattle.model.specs.Count.{each}
use Rattle.model.proofs.Tests.{le_or_lt}
use Rattle.order_rules.specs.declared.Part.{Part}
use Rattle.order_rules.specs.declared.Rule.{Rule}
use Rattle.order_rules.specs.Order.{Task}
use Rattle.order_rules.specs.Least.{least_order}
use Rattle.order_rules.specs.Parts.{no_part, part_at, fine_pitch, window_ok, task_of, placing_order}
use Rattle.order_rules.specs.Call.{first_bad}
use Rattle.order_rules.proofs.Agree.{Agree, least_agree}
use Rattle.order_rules.proofs.Least.{least-order, least_unique}
use Rattle.order_rules.proofs.Parts.{last-below, placing-order}
use Rattle.flat_order.specs.declared.sets.PartSet.{PartSet}
use Rattle.flat_order.specs.Sets.{no_parts, single, joined}
use Rattle.flat_order.specs.Flat.{flat_task}
use Rattle.placing.specs.declared.flags.Kinds.{Kinds}
use Rattle.placing.specs.Rows.{PositionsOf, Taken, FlatOf}
use Rattle.placing.proofs.Flagged.{members_none, members_more, fail_is}

-- one place more is filled
filled_at : (f : ℕ → ℕ) (xs : List ℕ) (i : ℕ) → i < length xs → ((k : ℕ) → k < i → get_or xs k 0 ≡ f k)
    → (k : ℕ) → k < i + 1 → get_or (set xs i (f i)) k 0 ≡ f k
filled_at f xs i l h k m =
    ⊎_elim
    (λ (u : i ≤ k). let z : k ≡ i = omega arith in rw z (get_or-set_same xs i (f i) 0 l))
    (λ (u : k < i). get_or-set_other xs i k (f i) 0 (λ z. omega arith) ∙ h k u)
    (le_or_lt i k)

-- the positions of one part more
positions_more : (parts : List Part) (i : ℕ) (firsts lasts : List ℕ) → i < length firsts → i < length lasts → PositionsOf parts i firsts lasts
    → PositionsOf parts (i + 1) (set firsts i (part_at parts i).first) (set lasts i (part_at parts i).last)
positions_more parts i firsts lasts l h p = record {
  opens = filled_at (λ k. (part_at parts k).first) firsts i l p.opens;
  closes = filled_at (λ k. (part_at parts k).last) lasts i h p.closes;
}

pub taken_none : (parts : List Part) (firsts lasts : List ℕ) → Taken parts 0 firsts lasts (record { fine = no_parts; short = no_parts })
taken_none parts firsts lasts = record {
  good = λ k l. absurd (omega arith);
  positions = record { opens = λ k l. absurd (omega arith); closes = λ k l. absurd (omega arith) };
  sorted = record { fine = members_none (λ x. fine_pitch (part_at parts x)); short = members_none (λ x. not (part_at parts x).tall) };
}

module _ (parts : List Part) (i : ℕ) (firsts lasts : List ℕ) (kinds : Kinds) (t : Taken parts i firsts lasts kinds) (part : Part)
    (e : part ≡ part_at parts i) where
  -- one part more
  pub taken_more : i < length firsts → i < length lasts → T (window_ok (length parts) part) → (more : Kinds)
      → more.fine ≡ joined kinds.fine (cond (fine_pitch part) (single i) no_parts)
      → more.short ≡ joined kinds.short (cond (not part.tall) (single i) no_parts)
      → Taken parts (i + 1) (set firsts i part.first) (set lasts i part.last) more
  taken_more l h good more fine short = rw e (record {
    good = λ k q. ⊎_elim
        (λ (y : i ≤ k). let s : k ≡ i = omega arith in rw (s, ← e) good)
        (λ (y : k < i). t.good k y)
        (le_or_lt i k);
    positions = positions_more parts i firsts lasts l h t.positions;
    sorted = record {
      fine = rw (fine, e) (members_more (λ x. fine_pitch (part_at parts x)) kinds.fine i t.sorted.fine);
      short = rw (short, e) (members_more (λ x. not (part_at parts x).tall) kinds.short i t.sorted.short);
    };
  })

  -- the first part with a bad window
  pub taken_bad : i < length parts → T (not (window_ok (length parts) part)) → i ≡ first_bad parts
  taken_bad l u = fail_is (window_ok (length parts)) no_part parts i (omega arith) t.good (λ _. rw (← e) u)

-- all parts
pub taken_whole : {parts : List Part} {n : ℕ} {firsts lasts : List ℕ} {kinds : Kinds} → length parts ≡ n → Taken parts n firsts lasts kinds
    → Taken parts (length parts) firsts lasts kinds
taken_whole e t = rw e t

pub taken_all : (parts : List Part) (firsts lasts : List ℕ) (kinds : Kinds) → Taken parts (length parts) firsts lasts kinds
    → length parts ≤ first_bad parts
taken_all parts firsts lasts kinds t =
    omega (arith, fail_is (window_ok (length parts)) no_part parts (length parts) (omega arith) t.good (λ h. absurd (omega arith)))

-- where no window is bad
module _ (parts : List Part) (windows : T (each (window_ok (length parts)) parts)) (rules : List Rule) (firsts lasts : List ℕ)
    (rows : List PartSet) (f : FlatOf parts rules firsts lasts rows) where
  abbrev t : Task
  t = flat_task firsts lasts rows

  -- the flat arrays describe the parts
  pub parts_agree : Agree t (task_of parts rules)
  parts_agree = record {
    size = f.size;
    first = λ i l. f.positions.opens i (omega (arith, f.size));
    last = λ i l. f.positions.closes i (omega (arith, f.size));
    before = λ a b k l. f.marked.has a b (omega (arith, f.size)) (omega (arith, f.size));
  }

  pub below : (i : ℕ) → i < t.size → t.last i < t.size
  below i l =
      let k : i < length parts = omega (arith, f.size) in
      omega (arith, f.size, f.positions.closes i k, last-below parts windows i k)

  -- the least order by the flat arrays is the placing order
  pub flat-order : least_order t ≡ placing_order parts rules
  flat-order = least_unique (least_agree parts_agree (least-order t below)) (placing-order parts rules windows)

-- what the search answers, where the order of the flat arrays is that of the parts
module _ {k n : ℕ} (size : k ≡ n) {flat whole : M.Option (List ℕ)} (e : flat ≡ whole) where
  pub order_some : (o : R.Option (List ℕ)) → IfSome o (λ order. some (take k order) ≡ flat) → IfSome o (λ order. some (take n order) ≡ whole)
  order_some R.None h = tt
  order_some (R.Some order) h = ap (λ j. some (take j order)) (sym size) ∙ h ∙ e

  pub order_none : (o : R.Option (List ℕ)) → IfNone o (none ≡ flat) → IfNone o (none ≡ whole)
  order_none R.None h = h ∙ e
  order_none (R.Some order) h = tt
