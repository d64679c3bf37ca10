use Rattle.std.proofs.Common.{◌≡◌, ℕ, List, take, IfOk, IfErr, sym, ◌∙◌, subst}
use Rattle.rx_types.specs.Domain.{Domain}
use Rattle.rx_graph.specs.Fits.{ReadsAs}
use Rattle.rx_graph.specs.Graph.{Graph}
use Rattle.rx_draft.specs.Drafts.{Drafted, StandsForSound, IsDraft}
use Rattle.rx_draft.specs.Seals.{KeepsRest}
use Rattle.rx_serial.specs.Rooms.{KeepsBehind}
use Rattle.rx_serial.specs.Unfit.{IsUnfit}
use Rattle.rx_serial.proofs.Finished.{keeps_behind, begins}
use Rattle.rx_serial.proofs.Results.{if_ok, if_err}
use Rattle.rx_serial.proofs.Walking.{unfit}
use Rattle.rx_serial.proofs.writing.write_within.Goals as goal

-- what a draft over the buffer keeps
kept : (start : List ℕ) (total : ℕ) (first last : Drafted) → first.bytes ≡ start → first.total ≡ total → last.total ≡ first.total → IsDraft last → ((bytes : List ℕ) → KeepsRest bytes first → KeepsRest bytes last) → KeepsBehind total start last.bytes
kept start total first last bytes long same h rest =
    subst (λ n. KeepsBehind n start last.bytes) (same ∙ long) (keeps_behind start last h (rest start (begins start first bytes)))

pub returns-in-Ok-clause-reads : goal.returns-in-Ok-clause-reads
returns-in-Ok-clause-reads c =
    subst (λ p. IfOk c.finish.result (λ s. (domains : List Domain) (m : Graph) → StandsForSound domains m p → ReadsAs domains m (take s.total s.bytes) c.args.valuation.now)) (c.fill.ensures.plan ∙ c.over-draft.ensures.plan) c.finish.ensures.reads

pub returns-in-Ok-clause-rest : goal.returns-in-Ok-clause-rest
returns-in-Ok-clause-rest c =
    let all = kept c.args.buffer.now c.args.total c.over-draft.result c.fill.new.draft c.over-draft.ensures.bytes c.over-draft.ensures.total c.fill.ensures.total c.fill.ensures.draft c.fill.ensures.rest in
    if_ok c.finish.result (λ s. s ≡ c.fill.new.draft) (λ s. KeepsBehind c.args.total c.args.buffer.now s.bytes) (λ s is. subst (λ x. KeepsBehind c.args.total c.args.buffer.now x.bytes) (sym is) all) c.finish.ensures.sealed

pub returns-in-Ok-clause-told : goal.returns-in-Ok-clause-told
returns-in-Ok-clause-told c =
    subst (λ p. IfErr c.finish.result (λ u. (domains : List Domain) (m : Graph) → StandsForSound domains m p → IsUnfit domains m c.args.valuation.now u.why)) (c.fill.ensures.plan ∙ c.over-draft.ensures.plan) c.finish.ensures.told

pub returns-in-Ok-clause-behind : goal.returns-in-Ok-clause-behind
returns-in-Ok-clause-behind c =
    let all = kept c.args.buffer.now c.args.total c.over-draft.result c.fill.new.draft c.over-draft.ensures.bytes c.over-draft.ensures.total c.fill.ensures.total c.fill.ensures.draft c.fill.ensures.rest in
    if_err c.finish.result (λ u. u.buffer.now ≡ c.fill.new.draft.bytes) (λ u. KeepsBehind c.args.total c.args.buffer.now u.buffer.now) (λ u is. subst (KeepsBehind c.args.total c.args.buffer.now) (sym is) all) c.finish.ensures.bytes

pub returns-in-Err-clause-told : goal.returns-in-Err-clause-told
returns-in-Err-clause-told c =
    λ domains m s.
    let begun = subst (StandsForSound domains m) (sym c.over-draft.ensures.plan) s in
    let now = subst (StandsForSound domains m) (sym c.fill.ensures.plan) begun in
    unfit domains m c.args.valuation.now c.fill.new.draft c.fill.ensures.draft now (c.fill.ensures.gives domains m now) (c.fill.ensures.total ∙ c.over-draft.ensures.total ∙ c.requires.length domains m s) c.in-Err.why (c.in-Err.ensures.refused domains m begun)

pub returns-in-Err-clause-behind : goal.returns-in-Err-clause-behind
returns-in-Err-clause-behind c =
    let all = kept c.args.buffer.now c.args.total c.over-draft.result c.fill.new.draft c.over-draft.ensures.bytes c.over-draft.ensures.total c.fill.ensures.total c.fill.ensures.draft c.fill.ensures.rest in
    subst (KeepsBehind c.args.total c.args.buffer.now) (sym c.give_back.ensures) all
