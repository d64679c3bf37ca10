use Rattle.std.proofs.Common.{ap, ◌∙◌, List, ℕ, take, drop, get_or, pos}
use Rattle.rx_forms.specs.Steps.{links_on, scalars_on}
use Rattle.rx_checks.specs.declared.verdict.Evidence.{Evidence}
use Rattle.rx_checks.specs.Told.{IsEvidence, TellsNumbers}
use Rattle.rx_checks.proofs.Judged.{if_ok}
use Rattle.rx_checks.proofs.Numbered.{front_of, front_total, front_numbers, front_evidence}
use Rattle.rx_checks.proofs.finding.evidence_at.Goals as goal

pub numbered_at-requires-clause-long : goal.numbered_at-requires-clause-long
numbered_at-requires-clause-long c =
    let domains = c.args.message.now.domains in
    let m = c.args.message.now.graph in
    let count = c.scalars_along-count.ensures ∙ ap (λ (p : List ℕ). scalars_on domains m (links_on domains m p)) c.links.ensures in
    (front_of domains m c.args.goal.now c.args.path.now c.args.point.now c.scalars_along-count.result (c.points_meet_goals.ensures c.args.goal.now c.args.path.now c.args.point.now c.requires.goal c.requires.path c.requires.point) count).long

pub numbered_at-requires-clause-total : goal.numbered_at-requires-clause-total
numbered_at-requires-clause-total c =
    let domains = c.args.message.now.domains in
    let m = c.args.message.now.graph in
    let count = c.scalars_along-count.ensures ∙ ap (λ (p : List ℕ). scalars_on domains m (links_on domains m p)) c.links.ensures in
    front_total domains m c.args.goal.now c.args.path.now c.args.point.now c.scalars_along-count.result
    (front_of domains m c.args.goal.now c.args.path.now c.args.point.now c.scalars_along-count.result (c.points_meet_goals.ensures c.args.goal.now c.args.path.now c.args.point.now c.requires.goal c.requires.path c.requires.point) count)

pub numbered_at-requires-clause-numbers : goal.numbered_at-requires-clause-numbers
numbered_at-requires-clause-numbers c =
    let domains = c.args.message.now.domains in
    let m = c.args.message.now.graph in
    let count = c.scalars_along-count.ensures ∙ ap (λ (p : List ℕ). scalars_on domains m (links_on domains m p)) c.links.ensures in
    front_numbers domains m c.is_known.ensures.elaborated c.args.goal.now c.args.path.now c.args.point.now c.scalars_along-count.result
    (front_of domains m c.args.goal.now c.args.path.now c.args.point.now c.scalars_along-count.result (c.points_meet_goals.ensures c.args.goal.now c.args.path.now c.args.point.now c.requires.goal c.requires.path c.requires.point) count)

pub returns : goal.returns
returns c =
    let domains = c.args.message.now.domains in
    let m = c.args.message.now.graph in
    let n = c.scalars_along-count.result in
    let point = c.args.point.now in
    let count = c.scalars_along-count.ensures ∙ ap (λ (p : List ℕ). scalars_on domains m (links_on domains m p)) c.links.ensures in
    let front = front_of domains m c.args.goal.now c.args.path.now point n (c.points_meet_goals.ensures c.args.goal.now c.args.path.now point c.requires.goal c.requires.path c.requires.point) count in
    if_ok c.numbered_at.result (λ (e : Evidence). TellsNumbers c.args.path.now (get_or point 0 (pos 0)) (take n (drop 1 point)) e) (λ (e : Evidence). IsEvidence domains m c.args.goal.now c.args.path.now e)
    (λ e h. front_evidence domains m c.args.goal.now c.args.path.now point n e front h)
    c.numbered_at.ensures
