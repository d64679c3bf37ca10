use Rattle.std.proofs.Common.{◌≡◌, ◌<◌, ◌+◌, sym, ap, subst, ◌∙◌, ℕ, List, [], ◌∷◌, ◌++◌, map, take, get_or, length}
use Rattle.std.proofs.lemmas.List.{take_more, map-append}
use Rattle.rx_layout.specs.declared.goal.Goal.{Goal}
use Rattle.rx_checks.specs.declared.report.Line.{Line}
use Rattle.rx_checks.specs.Lines.{AreFirst}
use Rattle.rx_checks.specs.Verdicts.{IsVerdict}
use Rattle.rx_checks.proofs.Judged.{all_append}
use Rattle.rx_checks.proofs.lines.first_lines.Goals as goal

-- one more goal has its line
pushed : (old new : List Line) (line : Line) (goals : List Goal) (i : ℕ) (d : Goal) → new ≡ old ++ line ∷ [] → map (λ l. l.goal) old ≡ take i goals → line.goal ≡ get_or goals i d → i < length goals → map (λ l. l.goal) new ≡ take (i + 1) goals
pushed old new line goals i d n o g l =
    ap (λ (ls : List Line). map (λ x. x.goal) ls) n
    ∙ (map-append (λ (x : Line). x.goal) old (line ∷ [])
    ∙ (ap (λ (gs : List Goal). gs ++ line.goal ∷ []) o
    ∙ (ap (λ (x : Goal). take i goals ++ x ∷ []) g ∙ sym (take_more goals i d l))))

pub loop-goal-preserved : goal.loop-goal-preserved
loop-goal-preserved c =
    let i = c.loop-goal.invariant in
    record {
      goals = pushed c.loop-goal.lines.items c.push.new.self.items c.first_line.result c.args.goals.now c.loop-goal.goal-index _ c.in_ok-push.ensures.items i.goals c.first_line.ensures.goal c.loop-goal-test.true;
      first = λ domains m splits. subst (λ (ls : List Line). AreFirst domains m splits ls) (sym c.in_ok-push.ensures.items)
          (all_append (λ (line : Line). IsVerdict domains m splits line.goal [] line.verdict) c.loop-goal.lines.items (c.first_line.result ∷ []) (i.first domains m splits) (c.first_line.ensures.first domains m splits, tt));
    }
