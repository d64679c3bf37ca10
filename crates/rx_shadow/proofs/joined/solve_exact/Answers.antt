use Rattle.std.proofs.Common.{◌≡◌, refl, sym, ap, subst, ◌∙◌, ℕ, List, [], length, rules}
use Rattle.rx_shadow.specs.declared.known.Known.{Known}
use Rattle.rx_shadow.specs.declared.known.Derived.{Derived}
use Rattle.rx_shadow.specs.Simple.{outcome, outcome_in}
use Rattle.rx_shadow.specs.Known.{rows_of}
use Rattle.rx_shadow.specs.Derivations.{IsDerived}
use Rattle.rx_shadow.specs.Solving.{IsFound}
use Rattle.rx_shadow.specs.Joined.{IsSolvedAt}
use Rattle.rx_shadow.proofs.Initial.{if_ok}
use Rattle.rx_shadow.proofs.Numbered.{all_derived, solved_at}
use Rattle.rx_shadow.proofs.joined.solve_exact.Goals as goal

pub returns : goal.returns
returns c =
    let n = c.args.variables in
    let known = c.args.known.now in
    let narrow = c.narrowest-narrow.result in
    let rows : Derived = record { variables = n; known = c.in_ok-copy.copy; given = c.len.result; steps = c.new.result } in
    let same : c.in_ok-copy.copy.items ≡ known = c.in_ok-copy.ensures in
    let count : c.len.result ≡ length c.in_ok-copy.copy.items = search rules in
    let derived : IsDerived (rows_of known) c.len.result [] known = subst (λ (k : ℕ). IsDerived (rows_of known) k [] known) (sym (ap length same) ∙ sym count) (all_derived known c.requires.joined.numbered) in
    if_ok c.search_exact.result (λ solved. IsFound n narrow rows (outcome_in n n (rows_of c.in_ok-copy.copy.items)) solved) (λ solved. IsSolvedAt n (rows_of known) (outcome n (rows_of known)) solved)
    (λ solved f. solved_at n known rows narrow (outcome n (rows_of known)) solved c.requires.joined.few refl same c.new.ensures.items derived c.narrowest-narrow.ensures
    (subst (λ (ks : List Known). IsFound n narrow rows (outcome_in n n (rows_of ks)) solved) same f))
    c.search_exact.ensures
