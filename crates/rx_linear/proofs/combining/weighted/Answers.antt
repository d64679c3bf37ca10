use Rattle.rx_linear.proofs.Bounds.{weighted_code_fits, weighted_code_is}
use Rattle.rx_linear.proofs.combining.weighted.Goals as goal

pub overflow_add-result : goal.overflow_add-result
overflow_add-result c =
    weighted_code_fits c.args.left c.args.left_times c.args.right c.args.right_times c.ranges.left c.ranges.left_times c.ranges.right c.ranges.right_times c.requires.left_small c.requires.right_small c.requires.left_times_small c.requires.right_times_small

pub returns : goal.returns
returns c =
    weighted_code_is c.args.left c.args.left_times c.args.right c.args.right_times c.ranges.left c.ranges.left_times c.ranges.right c.ranges.right_times c.requires.left_small c.requires.right_small c.requires.left_times_small c.requires.right_times_small
