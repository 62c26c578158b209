-- THE SORT DOES NOT SHOW IN EXACT SHARING: boards with the same lines, each with its quantity, in another order answer the same.
use Prim.Native.Nat.{ℕ, ◌*◌, ◌^◌}
use native.Mathlib.Omega.{arith}
use mathlib.Core.Path.{◌≡◌, refl, ap, ap₂, sym, ◌∙◌}
use mathlib.Core.List.{List, ◌++◌}
use borrow.Author.Tests.{le-ltb}
use lib.ListN.{length, take, length-append}
use Rattle.model.specs.Count.{list_of}
use Rattle.model.specs.Plan.{pairs}
use Rattle.model.specs.Choice.{Mounted, bare}
use Rattle.model.specs.Interval.{named}
use Rattle.model.specs.Renumber.{rank}
use Rattle.model.proofs.ListOf.{length-list_of}
use Rattle.placements.specs.Repeated.{repeated}
use Rattle.placements.specs.Good.{GoodLines}
use Rattle.placements.proofs.Named.{named-repeated}
use Rattle.refusal.specs.Told.{Refusal}
use Rattle.refusal.specs.Refusal.{told}
use Rattle.refusal.proofs.Laws.{number_of}
use Rattle.subset_rules.specs.Subsets.{tips_used, exact_tip, exact_plan, exact_plan_q}
use Rattle.subset_rules.specs.Exact.{capped}
use Rattle.subset_rules.specs.Table.{table_places, exact_table}
use Rattle.subset_rules.proofs.Drop.{rank_cong}
use Rattle.subset_rules.proofs.Placements.{exact_repeated, tips-repeated, length_exact}
use Rattle.line_calls.specs.Exact as Lines
use Rattle.line_calls.specs.Exact.{count_named, exact_refusal}
use Rattle.board.specs.declared.Board.{Board}
use Rattle.board.specs.Board.{lines_of, quantities_of}
use Rattle.board.specs.Sharing.{mounted_refusal}
use Rattle.board.specs.Exact.{exact_of, exact_buffer, exact_cells}
use Rattle.any_order_rules.specs.Boards.{Reordered}
use Rattle.any_order_rules.specs.Exact.{places_of, RoomFor, SameExact}
use Rattle.refusal.proofs.Numbers.{lent_take}
use Rattle.any_order_rules.proofs.Boards.{placements_of, good₁, good₂, lines, same, same_plan, same_tips}
use Rattle.any_order_rules.proofs.ExactOrder.{exact_hidden}

-- ---- one board

length-both : (f g : ℕ → ℕ) (n : ℕ) → length (list_of f n ++ list_of g n) ≡ 2 * n
length-both f g n = length-append (list_of f n) (list_of g n) ∙ omega (arith, length-list_of f n, length-list_of g n)

module _ {m : ℕ} {qs sets : List ℕ} (good : GoodLines m qs sets) (mounted : Mounted) (price : ℕ) where
  -- the table has its places: the placements name the tips that the lines do
  table-length : length (exact_table price m (repeated qs sets)) ≡ table_places (count_named m sets)
  unfolding exact_table
  table-length =
      let placed = repeated qs sets in
      let r = rank (named placed) m in
      let e : r ≡ count_named m sets = rank_cong (named placed) (named sets) m (λ t _. named-repeated good.placed sets good.same t) in
      rw (← e) (length-both _ _ (2 ^ r))

  -- the pairs and the tips of the plan by lines are those of the plan by placements
  pairs-placed : pairs (repeated qs (exact_plan_q mounted price m qs sets)) ≡ pairs (exact_plan mounted price m (repeated qs sets))
  pairs-placed = ap pairs (exact_repeated mounted price m qs sets)

  used_placed : tips_used m (exact_plan_q mounted price m qs sets) ≡ tips_used m (exact_plan mounted price m (repeated qs sets))
  used_placed =
      sym (tips-repeated m good.placed (exact_plan_q mounted price m qs sets) (omega (arith, good.same, length_exact mounted price m qs sets)))
      ∙ ap (tips_used m) (exact_repeated mounted price m qs sets)

-- ---- two boards

module _ (b₁ b₂ : Board) (r : Reordered b₁ b₂) (mounted : Mounted) (price : ℕ) (plan₁ plan₂ cells₁ cells₂ : List ℕ)
    (room₁ : RoomFor b₁ plan₁ cells₁) (room₂ : RoomFor b₂ plan₂ cells₂) where
  abbrev P : ℕ
  P = capped price

  abbrev exact₁ : Refusal
  exact₁ = exact_refusal (mounted_refusal b₁ mounted) b₁.rack (lines_of b₁) (length plan₁) (length cells₁)

  abbrev exact₂ : Refusal
  exact₂ = exact_refusal (mounted_refusal b₂ mounted) b₂.rack (lines_of b₂) (length plan₂) (length cells₂)

  same_named : count_named b₁.rack (lines_of b₁) ≡ count_named b₂.rack (lines_of b₂)
  same_named =
      (exact_hidden b₁.rack bare 0).names (lines_of b₁) (lines_of b₂) (lines b₁ b₂ r) ∙ ap (λ m. count_named m (lines_of b₂)) r.racks

  same_exact : exact₁ ≡ exact₂
  unfolding exact_refusal
  same_exact =
      rw (
        same_plan b₁ b₂ r mounted plan₁ plan₂ room₁.bytes room₂.bytes,
        le-ltb (length cells₁) (places_of b₁) room₁.places,
        le-ltb (length cells₂) (places_of b₂) room₂.places,
        same_named,
      )
      refl

  same_pairs : pairs (repeated (quantities_of b₁) (exact_plan_q mounted P b₁.rack (quantities_of b₁) (lines_of b₁)))
      ≡ pairs (repeated (quantities_of b₂) (exact_plan_q mounted P b₂.rack (quantities_of b₂) (lines_of b₂)))
  same_pairs =
      pairs-placed (good₁ b₁ b₂ r) mounted P
      ∙ same b₁ b₂ r (λ m l. pairs (exact_plan mounted P m l)) (λ m. (exact_hidden m mounted P).plan_pairs)
      ∙ sym (pairs-placed (good₂ b₁ b₂ r) mounted P)

  same_used : tips_used b₁.rack (exact_plan_q mounted P b₁.rack (quantities_of b₁) (lines_of b₁))
      ≡ tips_used b₂.rack (exact_plan_q mounted P b₂.rack (quantities_of b₂) (lines_of b₂))
  same_used =
      used_placed (good₁ b₁ b₂ r) mounted P
      ∙ same b₁ b₂ r (λ m l. tips_used m (exact_plan mounted P m l)) (λ m. (exact_hidden m mounted P).used)
      ∙ sym (used_placed (good₂ b₁ b₂ r) mounted P)

  same_table : exact₁.number ≡ 0 → take (places_of b₁) (exact_cells b₁ mounted price (length plan₁) cells₁)
      ≡ take (places_of b₂) (exact_cells b₂ mounted price (length plan₂) cells₂)
  unfolding exact_cells Lines.exact_cells
  same_table z =
      lent_take exact₁ z (places_of b₁) (exact_table P b₁.rack (placements_of b₁)) cells₁ (table-length (good₁ b₁ b₂ r) mounted P)
      ∙ same b₁ b₂ r (exact_table P) (λ m. (exact_hidden m mounted P).tables)
      ∙ sym (lent_take exact₂ (number_of same_exact z) (places_of b₂) (exact_table P b₂.rack (placements_of b₂)) cells₂
      (table-length (good₂ b₁ b₂ r) mounted P))

  -- THE SORT DOES NOT SHOW
  pub exact_sort_hidden : SameExact mounted price b₁ b₂ plan₁ plan₂ cells₁ cells₂
  unfolding exact_of exact_buffer Lines.exact_of Lines.exact_buffer exact_plan_q
  exact_sort_hidden = record {
    numbers = ap (λ d. d.number) same_exact;
    plan_pairs = ap₂ told same_exact same_pairs;
    used = ap₂ told same_exact same_used;
    tips = λ z. same_tips b₁ b₂ r plan₁ plan₂ (exact_tip mounted P) (λ m. (exact_hidden m mounted P).tips) exact₁ exact₂ z (number_of same_exact z);
    tables = same_table;
  }
