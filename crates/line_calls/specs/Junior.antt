-- What the Junior with two holders answers for lines with quantities in a rack of m tips after an earlier refusal, and what it means.
use Rattle.std.specs.Prelude.{ℕ, ◌≤◌, ◌<◌, ◌≡◌, ◌↔◌, ◌⊎◌, not, List, length, take}
use Rattle.model.specs.Plan.{Valid, pairs}
use Rattle.placements.specs.Repeated.{repeated}
use Rattle.refusal.specs.Told.{Refusal}
use Rattle.refusal.specs.Refusal.{or_else, when, told, lent_by}
use Rattle.call_refusals.specs.Junior
use Rattle.holder_rules.specs.Holders.{is_served, first_tip, second_tip, junior_plan, OnTips, NoneOnTips}
use Rattle.line_calls.specs.Answers.{JuniorAnswer}
use Rattle.line_calls.specs.Rules.{HandedOut}

-- what is asked of the lines, the rack and the plan buffer of room bytes, then that some tips serve every line
unfoldable pub junior_refusal : Refusal → ℕ → List ℕ → List ℕ → ℕ → Refusal
junior_refusal earlier m qs lines room =
    or_else (Junior.junior_refusal earlier m (length lines) room) (when (not (is_served m (repeated qs lines))) 31)

-- the plan's pairs and its tips; after a refusal they are 0
unfoldable pub junior_of : Refusal → ℕ → List ℕ → List ℕ → ℕ → JuniorAnswer
junior_of earlier m qs lines room =
    let r = junior_refusal earlier m qs lines room in
    record {
      refusal = r;
      pairs = told r (pairs (repeated qs (junior_plan m qs lines)));
      u = told r (first_tip m qs lines);
      v = told r (second_tip m qs lines);
    }

-- the plan buffer after it
unfoldable pub junior_buffer : Refusal → ℕ → List ℕ → List ℕ → List ℕ → List ℕ
junior_buffer earlier m qs lines plan = lent_by (junior_refusal earlier m qs lines (length plan)) (length lines) (junior_plan m qs lines) plan

-- the rule, of the bytes in the buffer, where asked is the number refused before tips are sought. Where the number is 0, the plan is handed out, on u
-- alone or on u and v, each with a line; no valid plan on one tip or two has more placement pairs, and none with as many is on a lower u, or on u and
-- a lower v. And the number is 31 exactly where no valid plan is on one tip or two
pub record JuniorRule (asked : ℕ) (qs lines buffer : List ℕ) (number shared u v : ℕ) : Type 0 where
  pub plan : number ≡ 0 → HandedOut qs lines buffer shared
  pub tips : number ≡ 0 → OnTips u v (take (length lines) buffer)
  pub most : number ≡ 0 → (x y : ℕ) (other : List ℕ) → Valid lines other → OnTips x y other → pairs (repeated qs other) ≤ shared
  pub lowest : number ≡ 0 → (x y : ℕ) (other : List ℕ) → Valid lines other → OnTips x y other → pairs (repeated qs other) ≡ shared
      → (u < x) ⊎ ((u ≡ x) × (v ≤ y))
  pub refused : asked ≡ 0 → (number ≡ 31) ↔ NoneOnTips lines
