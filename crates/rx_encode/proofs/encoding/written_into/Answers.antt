use Rattle.std.proofs.Common.{length, sym, ◌∙◌, subst}
use Rattle.rx_graph.specs.Fits.{ReadsAs}
use Rattle.rx_encode.proofs.Walked.{told_unfit, of_walk}
use Rattle.rx_encode.proofs.encoding.written_into.Goals as goal

pub write-requires-clause-sound : goal.write-requires-clause-sound
write-requires-clause-sound c = c.requires.sound

pub write-requires-clause-kinds : goal.write-requires-clause-kinds
write-requires-clause-kinds c = c.requires.kinds

pub write-requires-clause-short : goal.write-requires-clause-short
write-requires-clause-short c = c.requires.short

pub unfit-requires : goal.unfit-requires
unfit-requires c =
    let s = c.requires.sound in
    let values = c.args.valuation.now in
    let why = c.in-Err.refused.why in
    of_walk s.0 s.1 values why (told_unfit s.0 s.1 values (length c.args.buffer.now) why (c.requires.long s.0 s.1 s.2) (c.in-Err.ensures.told s.0 s.1 s.2))

pub returns-in_ok-message-in-Ok : goal.returns-in_ok-message-in-Ok
returns-in_ok-message-in-Ok c =
    λ domains m text stands value.
    let copy = c.in_ok-message-in-Ok.ensures in
    let same = copy.1 ∙ c.whole.ensures.message in
    (copy.0, (c.args.valuation.now, value, subst (λ bytes. ReadsAs domains m bytes c.args.valuation.now) (sym same) (c.in-Ok.ensures.reads domains m stands)))

pub returns-in-Err : goal.returns-in-Err
returns-in-Err c =
    λ domains m text stands value.
    let values = c.args.valuation.now in
    let why = c.in-Err.refused.why in
    c.unfit.ensures domains m text values value (told_unfit domains m values (length c.args.buffer.now) why (c.requires.long domains m stands) (c.in-Err.ensures.told domains m stands))
