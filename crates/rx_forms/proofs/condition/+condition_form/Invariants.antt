use Rattle.rx_forms.proofs.condition.+condition_form.Given as goal

abbrev pub decreases-condition_form : goal.decreases-condition_form
decreases-condition_form l = goal.size-condition_form l
