use Rattle.std.proofs.Common.{sym, ap, ◌∙◌, subst}
use Rattle.rx_types.specs.Environment.{place_of, AreDistinct}
use Rattle.rx_context.proofs.Lookup.{place_found, place_absent, at_among}
use Rattle.rx_context.proofs.verified.Verified.entry.Goals as goal

pub returns-in-Some-clause-place : goal.returns-in-Some-clause-place
returns-in-Some-clause-place c =
    let es = c.entries.result.now in
    let found = c.in-Some.ensures.some in
    let distinct = subst (λ l. AreDistinct l) (sym c.entries.ensures.entries) c.entries.ensures.distinct in
    sym (place_found es distinct found.0 c.in-Some.entry c.args.field found.1 found.2) ∙ ap (λ fs. place_of c.args.field fs) (c.entries.ensures.entries ∙ ap (λ r. r.fields) c.self.view_is)

pub returns-in-None-clause-place : goal.returns-in-None-clause-place
returns-in-None-clause-place c =
    let es = c.entries.result.now in
    sym (place_absent es c.args.field (λ h. let r = at_among es c.args.field h in c.in-None.ensures.none r.0 r.1 r.2 r.3)) ∙ ap (λ fs. place_of c.args.field fs) (c.entries.ensures.entries ∙ ap (λ r. r.fields) c.self.view_is)
