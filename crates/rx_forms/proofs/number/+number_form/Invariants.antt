use Rattle.rx_forms.proofs.number.+number_form.Given as goal

abbrev pub decreases-number_form : goal.decreases-number_form
decreases-number_form l = goal.size-number_form l
