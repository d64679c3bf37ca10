use Rattle.std.proofs.Common.{◌≡◌, sym, ap, subst, ◌∙◌, ◌++◌, List, map}
use Rattle.std.specs.List.{list_all}
use Rattle.std.proofs.lemmas.Result.{IfOk-from_err}
use Rattle.rx_graph.specs.declared.message.Node.TheVariants.{Start}
use Rattle.rx_graph.specs.Cycles.{IsPath}
use Rattle.rx_forms.specs.declared.linear.Linear.{Linear}
use Rattle.rx_forms.specs.declared.linear.Form.{Form, AtLeast}
use Rattle.rx_forms.specs.Fronts.{Front}
use Rattle.rx_forms.proofs.Typed.{links_formable, links_narrow}
use Rattle.rx_layout.specs.declared.goal.Goal.{Goal}
use Rattle.rx_layout.specs.Fitting.{fits}
use Rattle.rx_layout.specs.Goals.{source, IsGoal}
use Rattle.rx_layout.specs.Laid.{IsLaid}
use Rattle.rx_layout.proofs.Stages.{behind_end}
use Rattle.rx_layout.specs.Parts.{query_of, all_of, parts_of}
use Rattle.rx_layout.specs.QueryOf.{query_for}
use Rattle.rx_layout.specs.TypedPath.{TypedPath, typed_path}
use Rattle.rx_layout.proofs.Answering.{path_links, query_is}
use Rattle.rx_layout.proofs.Gathered.{if_ok}
use Rattle.rx_layout.proofs.Laying.{all_facts, four_same}
use Rattle.rx_layout.proofs.path_forms.PathForms.query.Goals as goal

-- what stands at the end of a path, with what the goal asks
abbrev asked_end : Goal → TypedPath → Front
asked_end goal p = behind_end p.domains p.graph p.path goal

pub ask-requires : goal.ask-requires
ask-requires c = record { goal = c.requires.goal }

pub returns-in_err-asked : goal.returns-in_err-asked
returns-in_err-asked c = IfOk-from_err c.from_residual.result _ c.from_residual.ensures.0

pub returns-in_err-rows : goal.returns-in_err-rows
returns-in_err-rows c = IfOk-from_err c.from_residual-in_err-rows.result _ c.from_residual-in_err-rows.ensures.0

pub query_of_all-requires-clause-few : goal.query_of_all-requires-clause-few
query_of_all-requires-clause-few c = c.in_ok-asked.ensures.few

pub query_of_all-requires-clause-fits : goal.query_of_all-requires-clause-fits
query_of_all-requires-clause-fits c =
    let i = c.self.inside in
    let p = typed_path i.message.now i.path.now in
    let asked = c.in_ok-asked.asked in
    let g = c.args.goal.now in
    let laid = subst (λ (x : TypedPath). IsLaid x 192 (asked_end g x) asked) (sym c.self.view_is) c.in_ok-asked.ensures in
    let last = c.as_slice-3.ensures ∙ c.in_ok-rows.ensures ∙ ap (λ (fs : List Linear). map (λ f. AtLeast f) fs) c.as_slice.ensures in
    ap (λ (fs : List Form). list_all (fits asked.work.next) fs) (four_same _ _ _ _ _ _ _ _ c.as_slice-facts.ensures c.as_slice-asked.ensures c.as_slice-2.ensures last)
    ∙ all_facts p c.types_are_proper.ensures.proper i.fields.items i.next i.facts i.rows (asked_end g p) asked c.self.invariant laid

pub returns : goal.returns
returns c =
    let i = c.self.inside in
    let p = typed_path i.message.now i.path.now in
    let asked = c.in_ok-asked.asked in
    let n = asked.work.next in
    let g = c.args.goal.now in
    let laid = subst (λ (x : TypedPath). IsLaid x 192 (asked_end g x) asked) (sym c.self.view_is) c.in_ok-asked.ensures in
    let last = c.as_slice-3.ensures ∙ c.in_ok-rows.ensures ∙ ap (λ (fs : List Linear). map (λ f. AtLeast f) fs) c.as_slice.ensures in
    let is_goal = subst (λ (x : TypedPath). IsGoal x.domains x.graph g) (sym c.self.view_is) c.requires.goal in
    let is_path = subst (λ (x : TypedPath). IsPath x.graph Start x.path (source g)) (sym c.self.view_is) c.requires.path in
    let known = c.is_known.ensures in
    let formable = links_formable p.domains p.graph known.boolean known.elaborated in
    let narrow = links_narrow p.domains p.graph known.boolean known.elaborated in
    let links = path_links p.domains p.graph known.elaborated formable narrow g p.path is_goal is_path in
    let all = c.as_slice-facts.result.now ++ (c.as_slice-asked.result.now ++ (c.as_slice-2.result.now ++ c.as_slice-3.result.now)) in
    let same = four_same _ _ _ _ _ _ _ _ c.as_slice-facts.ensures c.as_slice-asked.ensures c.as_slice-2.ensures last in
    let self = c.args.self.now in
    if_ok c.query_of_all.result (λ q. q ≡ query_of n (all_of (map (parts_of n) all))) (λ q. q ≡ query_for self.domains self.graph g self.path)
    (λ q h. h ∙ query_is p self i.fields g i.next i.facts i.rows asked all c.self.view_is c.self.invariant laid.is links same) c.query_of_all.ensures
