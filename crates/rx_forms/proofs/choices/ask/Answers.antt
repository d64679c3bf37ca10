use Rattle.std.proofs.Common.{◌≡◌, sym, ap, subst, List, IfOk}
use Rattle.rx_graph.specs.Graph.{Arrow, arrow_of}
use Rattle.rx_forms.specs.Code.{formed_all}
use Rattle.rx_forms.specs.Choices.{asked}
use Rattle.rx_forms.proofs.Looping
use Rattle.rx_forms.proofs.choices.ask.Goals as goal

pub ask_link-requires : goal.ask_link-requires
ask_link-requires c =
    let is = sym c.in-Some.ensures in
    let link = arrow_of c.in-Some.link.now in
    record {
      condition = (c.links_have_forms.ensures.formable c.args.index link is).condition;
      narrow = (c.links_have_forms.ensures.narrow c.args.index link is).condition;
      room = c.requires.room;
    }

pub returns-in-Some : goal.returns-in-Some
returns-in-Some c =
    let domains = c.args.message.now.domains in
    let m = c.args.message.now.graph in
    let e = sym (Looping.found_link domains m c.args.index (arrow_of c.in-Some.link.now) (sym c.in-Some.ensures)) in
    subst (λ (ls : List Arrow). IfOk c.ask_link.result (λ after. after ≡ asked (formed_all c.args.fields.now) c.args.next ls)) e c.ask_link.ensures

pub returns-in-None : goal.returns-in-None
returns-in-None c =
    let domains = c.args.message.now.domains in
    let m = c.args.message.now.graph in
    sym (ap (λ (ls : List Arrow). asked (formed_all c.args.fields.now) c.args.next ls) (Looping.lost_link domains m c.args.index (sym c.in-None.ensures)))
