use Rattle.std.proofs.Common.{◌≡◌, Some, None, rules}
use Rattle.rx_graph.specs.Fits.{content_of}
use Rattle.rx_values.specs.Valuation.{content}
use Rattle.rx_serial.proofs.Walking.{gives_either, longer_either, refused_either, lacks}
use Rattle.rx_serial.proofs.filling.step.Goals as goal

pub give-requires : goal.give-requires
give-requires c =
    λ domains m s.
    let given : content_of c.args.field c.args.valuation.now ≡ Some (content c.in-Some.value.now) = search rules in
    c.requires.kinds domains m c.args.field (content c.in-Some.value.now) s.stands given

pub returns-in-Some-clause-gives : goal.returns-in-Some-clause-gives
returns-in-Some-clause-gives c =
    let given : content_of c.args.field c.args.valuation.now ≡ Some (content c.in-Some.value.now) = search rules in
    gives_either c.give.result c.args.valuation.now c.args.draft.now c.give.new.draft c.args.field (content c.in-Some.value.now) c.give.ensures.plan given c.requires.gives c.give.ensures.put c.give.ensures.same

pub returns-in-Some-clause-longer : goal.returns-in-Some-clause-longer
returns-in-Some-clause-longer c =
    longer_either c.give.result c.args.draft.now c.give.new.draft c.args.field (content c.in-Some.value.now) c.requires.draft c.give.ensures.put

pub returns-in-Some-clause-refused : goal.returns-in-Some-clause-refused
returns-in-Some-clause-refused c =
    let given : content_of c.args.field c.args.valuation.now ≡ Some (content c.in-Some.value.now) = search rules in
    refused_either c.give.result c.args.valuation.now c.args.draft.now c.args.field (content c.in-Some.value.now) c.requires.draft c.requires.gives c.requires.next given c.give.ensures.refused

pub returns-in-None-clause-refused : goal.returns-in-None-clause-refused
returns-in-None-clause-refused c =
    λ domains m s.
    let none : content_of c.args.field c.args.valuation.now ≡ None = search rules in
    lacks domains m c.args.valuation.now c.args.draft.now c.requires.draft s (c.requires.gives domains m s) c.args.field (c.requires.next domains m s) none
