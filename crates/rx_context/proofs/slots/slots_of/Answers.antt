use Rattle.std.proofs.Common.{ℕ, ◌+◌, get_or, ◌∙◌, arith}
use Rattle.std.proofs.lemmas.List.{length-set, length-replicate}
use Rattle.std.proofs.lemmas.Option.{slice_get-get_or}
use Rattle.rx_types.specs.declared.env.Entry.{Entry}
use Rattle.rx_context.proofs.Lookup.{begins, more, zeros}
use Rattle.rx_context.proofs.slots.slots_of.Goals as goal

abbrev none : Entry
none = record { field = 0; first = 0; size = 0; number = 0 }

pub loop-index-init : goal.loop-index-init
loop-index-init c = record { slots = begins c.args.entries.now _ (zeros 128); size = length-replicate {A = ℕ} 128 0 }

pub bounds-slots-field : goal.bounds-slots-field
bounds-slots-field c =
    c.requires.low c.loop-index.index (get_or c.args.entries.now c.loop-index.index none) (slice_get-get_or c.args.entries.now c.loop-index.index none c.loop-index-test.true)

pub loop-index-preserved : goal.loop-index-preserved
loop-index-preserved c =
    let entries = c.args.entries.now in
    let i = c.loop-index.index in
    let e = get_or entries i none in
    let is = slice_get-get_or entries i none c.loop-index-test.true in
    let low = c.requires.low i e is in
    record {
      slots = more entries c.loop-index.slots i e is (omega (arith, low, c.loop-index.invariant.size)) c.loop-index.invariant.slots;
      size = length-set c.loop-index.slots e.field (i + 1) ∙ c.loop-index.invariant.size;
    }
