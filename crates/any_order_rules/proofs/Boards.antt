-- THE SORT DOES NOT SHOW: boards with the same lines, each with its quantity, in another order answer the same.
use Prim.Native.Nat.{ℕ, ◌-◌, ◌*◌, ◌≤◌, ◌<◌}
use native.Mathlib.Omega.{arith}
use mathlib.Core.Path.{◌≡◌, refl, ap, ap₂, sym, ◌∙◌}
use mathlib.Core.Bool.{Bool, true, false, cond}
use mathlib.Core.List.Perm
use mathlib.Core.List.{List, ◌++◌, map, zip_with}
use lib.Dec.{eqb, ltb}
use lib.IntN.{pos}
use lib.ListN.{length, get_or, take, drop, length-map, get_or-append}
use lib.Seq.{get_or-take}
use borrow.Author.Tests.{le-ltb}
use Rattle.model.specs.Plan.{pairs}
use Rattle.model.specs.Choice.{Mounted, bare}
use Rattle.model.specs.CommonTip.{top, W, margin}
use Rattle.model.specs.Greedy.{quick_tip, quick_plan}
use Rattle.model.specs.Interval.{named, is_run_of, C, best_tip, table}
use Rattle.model.proofs.Lists.{get_d_map}
use Rattle.model.proofs.ListOf.{length-list_of}
use Rattle.placements.specs.Repeated.{total, repeated}
use Rattle.placements.specs.Good.{GoodLines}
use Rattle.placements.specs.Plans.{quick_plan_q, best_plan_q}
use Rattle.placements.specs.Keep.{kept_q, prune_q}
use Rattle.placements.proofs.Repeated.{length-repeated, length-zip, zip-at}
use Rattle.placements.proofs.Plans.{quick_repeated}
use Rattle.refusal.specs.Told.{Refusal}
use Rattle.refusal.specs.Refusal.{none, accepts, told, when, lent_by}
use Rattle.refusal.proofs.Laws.{number_of}
use Rattle.call_refusals.specs.declared.Stage.TheVariants.{Closed}
use Rattle.call_refusals.specs.Calls
use Rattle.call_refusals.specs.Calls.{keep_refusal, plan_refusal, run_refusal, best_refusal}
use Rattle.line_calls.specs.Lines
use Rattle.board.specs.declared.Board.{Board}
use Rattle.board.specs.Board.{lines_of, quantities_of, state_refusal}
use Rattle.board.specs.Common.{common_of, keep_of}
use Rattle.board.specs.Sharing.{mounted_refusal, quick_of, quick_buffer, best_of, best_buffer, best_table}
use Rattle.board.proofs.Sets.{Full, ReadyBoard, ready, state-free, lines-count}
use Rattle.any_order_rules.specs.Order.{SameCounts, Hides}
use Rattle.any_order_rules.specs.Boards.{SoundClosed, Reordered, LongEnough, AlikeBySet, AlikeByPart, SameAnswers}
use Rattle.any_order_rules.proofs.Counts.{placements-counts, lines-counts}
use Rattle.any_order_rules.proofs.HiddenOrder.{order_hidden}
use Rattle.refusal.proofs.Numbers.{or_number, scan-number, lent_at, lent_take}

table-length : (m : ℕ) (lines : List ℕ) → length (table m lines) ≡ m * m
unfolding table
table-length m lines = length-list_of _ (m * m)

-- ---- one board

-- the sets of the board's placements
abbrev pub placements_of : Board → List ℕ
placements_of b = repeated (quantities_of b) (lines_of b)

module _ (b : Board) (r : SoundClosed b) where
  full : Full b
  full = record { sets_full = r.sets_full; quantities_full = r.quantities_full }

  free : state_refusal Closed b ≡ none
  free = state-free Closed b full r.is_sound r.is_closed

  known : ReadyBoard Closed b
  known = ready Closed b full {d = state_refusal Closed b} refl (ap (λ d. d.number) free)

  good : GoodLines b.rack (quantities_of b) (lines_of b)
  good = known.sound.good

  pub size : length (lines_of b) ≡ b.count
  size = lines-count Closed b full known

  -- the tip of line i in a plan that was handed out is that of its set
  tip-at : (tip : ℕ → ℕ) (d : Refusal) → d.number ≡ 0 → (old : List ℕ) (i : ℕ) → i < b.count
      → get_or (lent_by d (length (lines_of b)) (map tip (lines_of b)) old) i 0 ≡ tip (get_or b.sets i 0)
  tip-at tip d z old i l =
      let h : i < length (lines_of b) = omega (arith, size) in
      lent_at d z (length (lines_of b)) (map tip (lines_of b)) old i (omega (arith, length-map (lines_of b) tip))
      ∙ get_d_map tip 0 0 (lines_of b) i h
      ∙ ap tip (get_or-take b.count b.sets i 0 l)

  -- the set of line i after keep
  kept_at : (k : ℕ) (d : Refusal) (i : ℕ) → i < b.count
      → get_or (lent_by d (length (lines_of b)) (prune_q b.rack (quantities_of b) (lines_of b) k) b.sets) i 0
      ≡ cond (accepts d) (kept_q b.rack (placements_of b) k (get_or b.quantities i 0) (get_or b.sets i 0)) (get_or b.sets i 0)
  unfolding prune_q
  kept_at k d i l = by (accepts d)
    where
      rule : ℕ → ℕ → ℕ
      rule = kept_q b.rack (placements_of b) k

      new : List ℕ
      new = zip_with rule (quantities_of b) (lines_of b)

      line : i < length (lines_of b)
      line = omega (arith, size)

      by : (t : Bool) → get_or (cond t (new ++ drop (length (lines_of b)) b.sets) b.sets) i 0
          ≡ cond t (rule (get_or b.quantities i 0) (get_or b.sets i 0)) (get_or b.sets i 0)
      by true =
          let room = length-zip rule (quantities_of b) (lines_of b) good.same in
          get_or-append new (drop (length (lines_of b)) b.sets) 0 i (omega (arith, room, line))
          ∙ zip-at rule (quantities_of b) (lines_of b) i line good.same
          ∙ ap₂ rule (get_or-take b.count b.quantities i 0 l) (get_or-take b.count b.sets i 0 l)
      by false = refl

-- ---- two boards

module _ (b₁ b₂ : Board) (r : Reordered b₁ b₂) where
  pub good₁ : GoodLines b₁.rack (quantities_of b₁) (lines_of b₁)
  good₁ = good b₁ r.own₁

  pub good₂ : GoodLines b₂.rack (quantities_of b₂) (lines_of b₂)
  good₂ = good b₂ r.own₂

  -- the counts of the placements are the same, and those of the lines
  placements : SameCounts (placements_of b₁) (placements_of b₂)
  placements = placements-counts (quantities_of b₁) (lines_of b₁) (quantities_of b₂) (lines_of b₂) r.parts

  pub lines : SameCounts (lines_of b₁) (lines_of b₂)
  lines = lines-counts (quantities_of b₁) (lines_of b₁) (quantities_of b₂) (lines_of b₂) r.parts good₁.same good₂.same

  -- so a rule that hides the order gives the same for both
  pub same : {A : Type 0} (rule : ℕ → List ℕ → A) → ((m : ℕ) → Hides (rule m))
      → rule b₁.rack (placements_of b₁) ≡ rule b₂.rack (placements_of b₂)
  same rule h = h b₁.rack (placements_of b₁) (placements_of b₂) placements ∙ ap (λ m. rule m (placements_of b₂)) r.racks

  same_total : total (quantities_of b₁) ≡ total (quantities_of b₂)
  same_total =
      omega (
        arith,
        length-repeated (quantities_of b₁) (lines_of b₁) good₁.same,
        length-repeated (quantities_of b₂) (lines_of b₂) good₂.same,
        same (λ _. length) (λ _. (order_hidden 0 0 bare).lengths),
      )

  same_top : top b₁.rack (placements_of b₁) ≡ top b₂.rack (placements_of b₂)
  same_top = same top (λ m. (order_hidden m 0 bare).tops)

  -- neither board's state refuses
  same_state : state_refusal Closed b₁ ≡ state_refusal Closed b₂
  same_state = free b₁ r.own₁ ∙ sym (free b₂ r.own₂)

  -- ---- keep

  module _ (k : ℕ) where
    same_margin : margin b₁.rack (placements_of b₁) k ≡ margin b₂.rack (placements_of b₂) k
    same_margin = same (λ m l. margin m l k) (λ m. (order_hidden m k bare).margins)

    abbrev keep₁ : Refusal
    keep₁ = keep_refusal (state_refusal Closed b₁) (margin b₁.rack (placements_of b₁) k)

    abbrev keep₂ : Refusal
    keep₂ = keep_refusal (state_refusal Closed b₂) (margin b₂.rack (placements_of b₂) k)

    same_keep : keep₁ ≡ keep₂
    same_keep = ap₂ keep_refusal same_state same_margin

    same_kept : AlikeByPart b₁ b₂ (keep_of b₁ k).board.sets (keep_of b₂ k).board.sets
    unfolding keep_of Lines.sets_kept
    same_kept i j l h e f =
        let q = get_or b₂.quantities j 0 in
        let s = get_or b₂.sets j 0 in
        kept_at b₁ r.own₁ k keep₁ i l
        ∙ rw (same_keep, e, f, same (λ m x. kept_q m x k q s) (λ m. (order_hidden m k bare).kept q s)) refl
        ∙ sym (kept_at b₂ r.own₂ k keep₂ j h)

  -- its number and its margin, whatever the buffers of other calls are
  pub kept_alike : (k : ℕ) → ((keep_of b₁ k).number ≡ (keep_of b₂ k).number) × ((keep_of b₁ k).margin ≡ (keep_of b₂ k).margin)
  unfolding keep_of Lines.keep_of
  kept_alike k = (ap (λ d. d.number) (same_keep k), ap₂ (λ d z. cond (accepts d) z (pos 0)) same_state (same_margin k))

  -- ---- the plans

  -- the racks are equal, so a mounted tip is outside both or neither
  pub same_mounted : (mounted : Mounted) → mounted_refusal b₁ mounted ≡ mounted_refusal b₂ mounted
  same_mounted mounted = ap₂ (λ d m. Calls.mounted_refusal d m mounted) same_state r.racks

  -- a plan buffer that is long enough in both is refused in neither
  pub same_plan : (mounted : Mounted) (plan₁ plan₂ : List ℕ) → b₁.count ≤ length plan₁ → b₂.count ≤ length plan₂
      → plan_refusal (mounted_refusal b₁ mounted) (length (lines_of b₁)) (length plan₁)
      ≡ plan_refusal (mounted_refusal b₂ mounted) (length (lines_of b₂)) (length plan₂)
  unfolding plan_refusal
  same_plan mounted plan₁ plan₂ long₁ long₂ =
      rw (
        same_mounted mounted,
        le-ltb (length plan₁) (length (lines_of b₁)) (omega (arith, size b₁ r.own₁, long₁)),
        le-ltb (length plan₂) (length (lines_of b₂)) (omega (arith, size b₂ r.own₂, long₂)),
      )

  -- a tip by a rule that hides the order, in the buffers of accepted calls
  pub same_tips : (plan₁ plan₂ : List ℕ) (tip : ℕ → List ℕ → ℕ → ℕ) → ((m s : ℕ) → Hides (λ l. tip m l s)) → (d₁ d₂ : Refusal)
      → d₁.number ≡ 0 → d₂.number ≡ 0
      → AlikeBySet b₁ b₂
      (lent_by d₁ (length (lines_of b₁)) (map (tip b₁.rack (placements_of b₁)) (lines_of b₁)) plan₁)
      (lent_by d₂ (length (lines_of b₂)) (map (tip b₂.rack (placements_of b₂)) (lines_of b₂)) plan₂)
  same_tips plan₁ plan₂ tip hides d₁ d₂ z₁ z₂ i j l h e =
      tip-at b₁ r.own₁ (tip b₁.rack (placements_of b₁)) d₁ z₁ plan₁ i l
      ∙ ap (tip b₁.rack (placements_of b₁)) e
      ∙ same (λ m x. tip m x (get_or b₂.sets j 0)) (λ m. hides m _)
      ∙ sym (tip-at b₂ r.own₂ (tip b₂.rack (placements_of b₂)) d₂ z₂ plan₂ j h)

  module _ (mounted : Mounted) (plan₁ plan₂ cells₁ cells₂ : List ℕ) (long₁ : LongEnough b₁ plan₁ cells₁) (long₂ : LongEnough b₂ plan₂ cells₂) where
    abbrev quick₁ : Refusal
    quick₁ = plan_refusal (mounted_refusal b₁ mounted) (length (lines_of b₁)) (length plan₁)

    abbrev quick₂ : Refusal
    quick₂ = plan_refusal (mounted_refusal b₂ mounted) (length (lines_of b₂)) (length plan₂)

    abbrev best₁ : Refusal
    best₁ = best_refusal (mounted_refusal b₁ mounted) b₁.rack (lines_of b₁) (length plan₁) (length cells₁)

    abbrev best₂ : Refusal
    best₂ = best_refusal (mounted_refusal b₂ mounted) b₂.rack (lines_of b₂) (length plan₂) (length cells₂)

    same_quick : quick₁ ≡ quick₂
    same_quick = same_plan mounted plan₁ plan₂ long₁.bytes long₂.bytes

    same_run : (run_refusal (lines_of b₁)).number ≡ (run_refusal (lines_of b₂)).number
    same_run =
        scan-number (is_run_of (named (lines_of b₁))) 25 (lines_of b₁)
        ∙ ap (λ b. cond b 0 25) ((order_hidden 0 0 bare).runs (lines_of b₁) (lines_of b₂) lines)
        ∙ sym (scan-number (is_run_of (named (lines_of b₂))) 25 (lines_of b₂))

    same_best : best₁.number ≡ best₂.number
    unfolding best_refusal
    same_best =
        let m₁ = b₁.rack in
        let m₂ = b₂.rack in
        let short : when (ltb (length cells₁) (m₁ * m₁)) 5 ≡ when (ltb (length cells₂) (m₂ * m₂)) 5 =
        rw (le-ltb (length cells₁) (m₁ * m₁) long₁.places, le-ltb (length cells₂) (m₂ * m₂) long₂.places) refl in
        or_number same_quick _ _ (or_number short (run_refusal (lines_of b₁)) (run_refusal (lines_of b₂)) same_run)

    same_pairs : pairs (repeated (quantities_of b₁) (quick_plan_q mounted b₁.rack (quantities_of b₁) (lines_of b₁)))
        ≡ pairs (repeated (quantities_of b₂) (quick_plan_q mounted b₂.rack (quantities_of b₂) (lines_of b₂)))
    same_pairs =
        ap pairs (quick_repeated mounted b₁.rack (quantities_of b₁) (lines_of b₁))
        ∙ same (λ m l. pairs (quick_plan mounted m l)) (λ m. (order_hidden m 0 mounted).quick-pairs)
        ∙ sym (ap pairs (quick_repeated mounted b₂.rack (quantities_of b₂) (lines_of b₂)))

    same_table : best₁.number ≡ 0
        → take (b₁.rack * b₁.rack) (best_table b₁ mounted (length plan₁) cells₁)
        ≡ take (b₂.rack * b₂.rack) (best_table b₂ mounted (length plan₂) cells₂)
    unfolding best_table Lines.best_table
    same_table z =
        let m₁ = b₁.rack in
        let m₂ = b₂.rack in
        lent_take best₁ z (m₁ * m₁) (table m₁ (placements_of b₁)) cells₁ (table-length m₁ (placements_of b₁))
        ∙ same table (λ m. (order_hidden m 0 mounted).tables)
        ∙ sym (lent_take best₂ (sym same_best ∙ z) (m₂ * m₂) (table m₂ (placements_of b₂)) cells₂ (table-length m₂ (placements_of b₂)))

    -- THE SORT DOES NOT SHOW
    pub sort_hidden : (k : ℕ) → SameAnswers k mounted b₁ b₂ plan₁ plan₂ cells₁ cells₂
    unfolding common_of keep_of quick_of quick_buffer best_of best_buffer Lines.common_of Lines.keep_of Lines.quick_of Lines.quick_buffer
        Lines.best_of
        Lines.best_buffer quick_plan_q best_plan_q
    sort_hidden k = record {
      common_number = ap (λ d. d.number) same_state;
      tops = ap₂ told same_state same_top;
      offs = ap₂ told same_state (ap₂ ◌-◌ same_total same_top);
      tips = ap₂ told same_state (same W (λ m. (order_hidden m 0 bare).tips));
      keep_number = ap (λ d. d.number) (same_keep k);
      margins = ap₂ (λ d z. cond (accepts d) z (pos 0)) same_state (same_margin k);
      kept_sets = same_kept k;
      quick_number = ap (λ d. d.number) same_quick;
      quick-pairs = ap₂ told same_quick same_pairs;
      quick_tips = λ z. same_tips plan₁ plan₂ (quick_tip mounted) (λ m. (order_hidden m 0 mounted).quick_tips) quick₁ quick₂ z
          (number_of same_quick z);
      best_number = same_best;
      best-pairs = ap₂ (λ n x. cond (eqb n 0) x 0) same_best (same (λ m l. C l 0 m) (λ m. (order_hidden m 0 mounted).best-pairs));
      best_tips = λ z. same_tips plan₁ plan₂ (best_tip mounted) (λ m. (order_hidden m 0 mounted).best_tips) best₁ best₂ z (sym same_best ∙ z);
      tables = same_table;
    }

-- and so in one board, which has its own lines in some order: equal sets get equal tips in a plan, and equal lines keep equal sets
pub one_board : (b : Board) → SoundClosed b → (mounted : Mounted) (plan cells : List ℕ) → LongEnough b plan cells → (k : ℕ)
    → SameAnswers k mounted b b plan plan cells cells
one_board b own mounted plan cells long =
    sort_hidden b b (record { own₁ = own; own₂ = own; racks = refl; parts = Perm.refl _ }) mounted plan plan cells cells long long
