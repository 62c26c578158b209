use Rattle.std.proofs.Common.{◌≡◌, ap, false}
use Rattle.counts.proofs.Sums.{no_sums}
use Rattle.job.specs.Job.{counted, version_in}
use Rattle.plain_file.proofs.Swapped.{lines_fit, lines-joinable, lines_joined, counted-back}
use Rattle.plain_file.proofs.counting.count_tips.Goals as goal

pub add_all-requires-clause-fits : goal.add_all-requires-clause-fits
add_all-requires-clause-fits c = lines_fit _ c.args.good.file.good no_sums

pub join-planes-requires : goal.join-planes-requires
join-planes-requires c = lines-joinable _ c.args.good.file.good no_sums c.add_all.ensures

pub returns : goal.returns
returns c =
    let good = c.args.good in
    let file = good.file.bytes.now in
    let plain : counted (version_in file) ≡ false = ap counted c.requires in
    let counted = lines_joined file good.file.good no_sums c.add_all.ensures c.join-planes.ensures in
    counted-back file good.accepted plain counted c.put_back.array_long c.put_back.ensures.counts
