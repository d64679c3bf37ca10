use Rattle.std.proofs.Common.{◌≡◌, sym, ap, subst, ◌∙◌, List}
use Rattle.std.specs.Result.{IfOk}
use Rattle.rx_linear.specs.Systems.{LinearSystem}
use Rattle.rx_shadow.specs.declared.known.Known.{Known}
use Rattle.rx_shadow.specs.Bounds.{HasUnitRows}
use Rattle.rx_shadow.specs.Simple.{outcome, clashes}
use Rattle.rx_shadow.specs.Known.{rows_of}
use Rattle.rx_shadow.specs.Joined.{IsJoined, IsSolvedAt}
use Rattle.rx_shadow.proofs.joined.JoinedRows.solve.Goals as goal

abbrev system_of : goal.After-deref → List Known → LinearSystem
system_of c known = record { variables = c.self.inside.variables; rows = rows_of known }

seen : (c : goal.After-deref) → system_of c c.deref.result.now ≡ c.args.self.now
seen c = ap (system_of c) c.deref.ensures.value ∙ c.self.view_is

pub solve_apart-requires : goal.solve_apart-requires
solve_apart-requires c = record {
  joined = subst (IsJoined c.self.inside.variables) (sym c.deref.ensures.value) c.self.invariant;
  bounded = subst (λ (s : LinearSystem). HasUnitRows s.variables s.rows) (sym (seen c)) c.requires.bounded;
  apart = ap (λ (s : LinearSystem). clashes s.variables s.rows) (seen c) ∙ c.requires.apart;
}

pub returns : goal.returns
returns c =
    subst (λ (s : LinearSystem). IfOk c.solve_apart.result (λ solved. IsSolvedAt s.variables s.rows (outcome s.variables s.rows) solved)) (ap (λ (ks : List Known). let s : LinearSystem = record { variables = c.self.inside.variables; rows = rows_of ks } in s) c.deref.ensures.value ∙ c.self.view_is) c.solve_apart.ensures
