use Rattle.std.proofs.Common.{sym, ap, ◌∙◌, neg_ℤ, option_map}
use Rattle.rx_shadow.specs.Known.{rows_of}
use Rattle.rx_shadow.proofs.Closings.{upper_is}
use Rattle.rx_shadow.proofs.bounds.bounds.Goals as goal

pub returns : goal.returns
returns c = record {
  lower = sym c.in_ok-low.ensures.bound;
  upper = upper_is c.args.variable (rows_of c.args.known.now) ∙ ap (option_map neg_ℤ) (sym c.in_ok-high.ensures.bound);
  low_among = c.in_ok-low.ensures.among;
  high_among = c.in_ok-high.ensures.among;
  low_unit = c.in_ok-low.ensures.unit;
  high_unit = c.in_ok-high.ensures.unit;
}
