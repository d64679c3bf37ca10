use Rattle.std.proofs.Common.{length, List, [], ◌∷◌}
use Rattle.rx_syntax.specs.declared.mark.Mark.TheVariants as sign
use Rattle.rx_grammar.specs.declared.terminal.Terminal.TheVariants as terminal
use Rattle.rx_grammar.specs.declared.terminal.Keyword.TheVariants as word
use Rattle.rx_grammar.specs.Grammar.{Symbol, rule, mark, key, quote, NAME, NUM, choice_of, maybe, many, some, listed, ◌▸◌, ◌∣◌, condition, with_aspects, more_thens, aspect, aspects, one_then, thens, numbered, literals, easpect, def, plain_literals, numbered_literals, with_easpects, unsigned_def, range_def, enumeration_def, sequence_def, derived_def, null_def, message_def, field, start_thens, byte_order, inner, refine, type_decl, plain_decl, with_clause, header, plain_file, name_more, expr_more, condition_more, aspects_more, with_aspects_more, thens_more, easpect_more, literals_more, def_more}
use Rattle.rx_grammar.specs.First.{after, exactly}
use Rattle.rx_grammar.specs.Sentence.{Each, AtLeastOne, Listed, IsAspect, AreThens, IsField, IsEnumAspect, GoesOnPlain, GoesOnNumbered, IsDecl, IsWith}
use Rattle.rx_grammar.proofs.Chain.{Chain}
use Rattle.rx_grammar.proofs.definition.easpects.Given as goal

-- the parts so far
abbrev pub invariant-parts : goal.invariant-parts
invariant-parts l = Chain (listed (rule easpect)) (after literals_more) (Listed IsEnumAspect) (many (mark sign.Comma ▸ rule easpect)) l.fn.start.rest.now l.fn.start.limits l.list.items l.cursor.rest.now l.cursor.limits

abbrev pub decreases-parts : goal.decreases-parts
decreases-parts l = length l.cursor.rest.now
