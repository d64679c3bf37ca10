use Rattle.std.proofs.Common.{◌≡◌, ◌+◌, ◌*◌, true, false, refl, sym, ap, ◌∙◌, rules, arith}
use Rattle.std.specs.Prelude.{pos, ◌+ℤ◌}
use Rattle.std.proofs.lemmas.Int.{ints}
use Rattle.rx_types.specs.Environment.{end_of, bits_of}
use Rattle.rx_context.proofs.Ends.{end_at}
use Rattle.rx_draft.proofs.stepping.ends.Goals as goal

pub returns-then-entry-total : goal.returns-then-entry-total
returns-then-entry-total c =
    let end : end_of c.args.env.now.fields ≡ pos c.in-Some.entry.now.first +ℤ pos c.in-Some.entry.now.size = ap end_of (sym c.entries.ensures.entries) ∙ end_at c.entries.result.now c.in-Some.entry.now (sym c.in-Some.ensures.value) in
    let same : c.in-Some.entry.now.first + c.in-Some.entry.now.size ≡ c.args.env.now.total * 8 = search rules in
    (λ yes. end ∙ omega (arith, ints, same), λ h. refl)

pub returns-else-entry-total : goal.returns-else-entry-total
returns-else-entry-total c =
    let end : end_of c.args.env.now.fields ≡ pos c.in-Some.entry.now.first +ℤ pos c.in-Some.entry.now.size = ap end_of (sym c.entries.ensures.entries) ∙ end_at c.entries.result.now c.in-Some.entry.now (sym c.in-Some.ensures.value) in (
      λ no. absurd (let e : false ≡ true = no in cc),
      λ h. let same : c.in-Some.entry.now.first + c.in-Some.entry.now.size ≡ c.args.env.now.total * 8 = (let both = sym end ∙ h in omega (arith, ints, both)) in
          search (rules, same),
    )
