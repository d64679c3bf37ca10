use Rattle.std.proofs.Common.{◌≡◌, ◌+◌, ◌*◌, ◌++◌, map, drop, true}
use Rattle.std.specs.List.{list_all}
use Rattle.rx_layout.specs.Fitting.{fits}
use Rattle.rx_layout.specs.Parts.{query_of, parts_of, all_of}
use Rattle.rx_layout.proofs.Gathered.{count, total}
use Rattle.rx_layout.proofs.parts.+parts.Given as goal

abbrev pub invariant-all_of-loop-form : goal.invariant-all_of-loop-form
invariant-all_of-loop-form l = record {
  rows : l.all.rows ++ (all_of (map (parts_of l.variables) (drop l.form-index l.forms))).rows ≡ (all_of (map (parts_of l.variables) l.forms)).rows;
  either : l.all.either ++ (all_of (map (parts_of l.variables) (drop l.form-index l.forms))).either ≡ (all_of (map (parts_of l.variables) l.forms)).either;
  fits : list_all (fits l.variables) (drop l.form-index l.forms) ≡ true;
}

abbrev pub invariant-branches-loop-form : goal.invariant-branches-loop-form
invariant-branches-loop-form l = record {
  value : l.queries.items ++ map (query_of l.variables) (map (parts_of l.variables) (drop l.form-index l.forms)) ≡ map (query_of l.variables) (map (parts_of l.variables) l.forms);
  fits : list_all (fits l.variables) (drop l.form-index l.forms) ≡ true;
}

abbrev pub decreases-parts_of : goal.decreases-parts_of
decreases-parts_of l = 4 * count l.form.now

abbrev pub decreases-all_of : goal.decreases-all_of
decreases-all_of l = 4 * total (map count l.forms.now) + 2

abbrev pub decreases-one_of : goal.decreases-one_of
decreases-one_of l = 4 * total (map count l.forms.now) + 2

abbrev pub decreases-branches : goal.decreases-branches
decreases-branches l = 4 * total (map count l.forms.now) + 1
