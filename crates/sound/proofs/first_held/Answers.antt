use Rattle.std.proofs.Common.{rules, ◌≡◌, ◌∙◌}
use Rattle.std.proofs.lemmas.Iterator.{YieldsList-from_slice, YieldsList-from_zip}
use Rattle.std.proofs.lemmas.Iterator.Search.{position_from_yields_List}
use Rattle.std.specs.List.{position, zip}
use Rattle.sound.proofs.First.{held, held-position}
use Rattle.sound.proofs.first_held.Goals as goal

pub returns : goal.returns
returns c =
    let sets = c.args.sets.now in
    let qs = c.args.quantities.now in
    let z = c.zip.result in
    let both = YieldsList-from_zip {s = z} (YieldsList-from_slice sets (search rules)) (YieldsList-from_slice qs (search rules)) in
    let p : c.position.result ≡ position held (zip sets qs) =
    position_from_yields_List {s = z} held c.position.new.self _ c.position.result c.position.ensures.ran both (λ x b q k. search rules) in
    p ∙ held-position qs sets c.requires
