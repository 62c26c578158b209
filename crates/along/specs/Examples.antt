-- Plans along the list, computed.
use Rattle.std.specs.Prelude.{◌≡◌, refl, List, [], ◌∷◌, ℕ}
use Rattle.std.specs.Int.Count.{count_trailing_zeros}
use Rattle.model.specs.Choice.{bare, tip}
use Rattle.model.specs.CommonTip.{set_of}
use Rattle.model.specs.Interval.{low}
use Rattle.along.specs.Along.{changes_after, changes, parted, common, fewest_from, final, plan_from, start_set, fewest, plan_along}

-- {0,1}, {1,2}, {2}, {0}
abbrev four : List ℕ
four = 3 ∷ 6 ∷ 4 ∷ 1 ∷ []

-- no tip is mounted: the first two lines share tip 1, and each of the others is a change
none_mounted : (plan_along bare four ≡ 1 ∷ 1 ∷ 2 ∷ 0 ∷ []) × (fewest bare four ≡ 2) × (changes bare (plan_along bare four) ≡ 2)
unfolding plan_along fewest start_set plan_from fewest_from final common parted changes changes_after set_of low count_trailing_zeros
none_mounted = (refl, refl, refl)

-- tip 0 is mounted: it serves the first line, and the next two share tip 2
tip_mounted : (plan_along (tip 0) four ≡ 0 ∷ 2 ∷ 2 ∷ 0 ∷ []) × (fewest (tip 0) four ≡ 2)
unfolding plan_along fewest start_set plan_from fewest_from final common parted set_of low count_trailing_zeros
tip_mounted = (refl, refl)

-- tip 5 is mounted, which no line has: the first line is a change
other_mounted : (plan_along (tip 5) four ≡ 1 ∷ 1 ∷ 2 ∷ 0 ∷ []) × (fewest (tip 5) four ≡ 3)
unfolding plan_along fewest start_set plan_from fewest_from final common parted set_of low count_trailing_zeros
other_mounted = (refl, refl)
