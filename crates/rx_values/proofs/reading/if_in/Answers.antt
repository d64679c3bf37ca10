use Rattle.std.proofs.Common.{ℕ, Bool, Option, Some, None, sym, ap, ◌∙◌, cond}
use Rattle.std.proofs.lemmas.Bool.Decides.{same_from_decides}
use Rattle.rx_types.specs.Domain.{domain_of}
use Rattle.rx_values.specs.Reading.{is_in}
use Rattle.rx_values.proofs.Choices.{is_in_decides}
use Rattle.rx_values.proofs.reading.if_in.Goals as goal

abbrev pick : ℕ → Bool → Option ℕ
pick n b = cond b (Some n) None

pub returns-else-contains : goal.returns-else-contains
returns-else-contains c =
    let t = domain_of c.args.scalar.now in
    let same = same_from_decides c.contains.result (is_in t c.args.number) c.contains.ensures (is_in_decides t c.args.number) in
    ap (pick c.args.number) (sym c.if-contains.false ∙ same)
