use Rattle.std.proofs.Common.{◌≡◌, ◌≤◌, ◌^◌, ℕ, arith}
use Rattle.rx_graph.proofs.Ways.{length-arrows}
use Rattle.message_trials.proofs.worked.paths_of.Goals as goal

few_of : (n k : ℕ) → n ≡ k → n ≤ 512 → k ≤ 2 ^ 16
few_of n k e h = omega (arith, e, h)

pub paths-requires-clause-few : goal.paths-requires-clause-few
paths-requires-clause-few c = few_of _ _ (length-arrows c.args.message.now.links.items) c.requires.message.elaborated.few_links
