use Rattle.std.proofs.Common.{subst}
use Rattle.rx_graph.specs.Typed.{Typed}
use Rattle.rx_values.specs.Laws.{ReadsBack}
use Rattle.rx_serial.specs.Laws.{NoneFits, HasOneRefusal}
use Rattle.rx_encode.proofs.RoundTrip.{printed_is_encoded}
use Rattle.rx_encode.proofs.laws.printed_is_encoded.Goals as goal

pub returns : goal.returns
returns c =
    let same = c.elaborated-elaborated.ensures in
    let back = subst (λ (t : Typed). ReadsBack t.domains t.graph) same c.printed_reads_back.ensures in
    let none = subst (λ (t : Typed). NoneFits t.domains t.graph) same c.unfit_valuations_fit_no_path.ensures in
    let one = subst (λ (t : Typed). HasOneRefusal t.domains t.graph) same c.unfit_valuations_have_one_refusal.ensures in
    printed_is_encoded c.args.message.now.domains c.args.message.now.graph c.is_sound.ensures.known.elaborated back none one c.valuations_have_one_buffer.ensures c.sizes_make_the_length.ensures.valuation
