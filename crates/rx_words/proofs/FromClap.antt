-- From clap's contracts to the parts of the words.
use Rattle.std.proofs.Common.{◌≡◌, ◌∙◌, ◌⊎◌, ℕ, Bool, true, false, List, [], ◌∷◌, Option, Some, None, is_some, refl, sym, inl, inr, ap, ap₂, codes, cond, true≢false, subst, map}
use Rattle.std.specs.Prelude.{option_map, Result, Err, IfOk}
use Rattle.std.specs.Str.{bytes_eq}
use Rattle.std.specs.String.{string_bytes}
use Rattle.std.proofs.lemmas.Str.{IsUtf8-string_bytes}
use Rattle.std.specs.declared.string.String.{String}
use Rattle.clap.specs.Walk.{Row, first_of, rows_of}
use Rattle.clap.specs.Matches.{found_of, first_value, subcommand_name_of}
use Rattle.clap.specs.Simple.{App, HasMatchesOf, app_of, app_of_fields, shape_of, on_top, is_simple, with_subcommand, subcommand_of, subcommand_rows_of, subcommand_rows}
use Rattle.clap.specs.Kinds.{Kinds, HasKind, IsAmong}
use Rattle.clap.specs.Faults.{fault_of, is_simple_and_free}
use Rattle.clap.specs.Values.{kind_of}
use Rattle.clap.specs.Built.{AddsSubcommand}
use Rattle.clap.proofs.WalkLemmas.{first_value-rows}
use Rattle.clap.specs.declared.Command.{Command}
use Rattle.clap.specs.declared.Command.TheViews.{out-Command as fields_of}
use Rattle.clap.specs.declared.ArgMatches.{ArgMatches}
use Rattle.clap.specs.declared.ArgMatches.TheViews.{out-ArgMatches}
use Rattle.clap.specs.declared.error.Error.{Error}
use Rattle.clap.specs.declared.error.ErrorKind.TheVariants as kind
use Rattle.rx_words.specs.declared.line.CommandName.{CommandName}
use Rattle.rx_words.specs.declared.line.CommandName.TheVariants.{Check, Decode, Encode, Run, Load}
use Rattle.rx_words.specs.Form.{Text, Given, Slot, value_at, operand, splits, deep, name_of, command_named, parts_of}
use Rattle.rx_words.specs.declared.fault.WordsFault.{WordsFault}
use Rattle.rx_words.specs.declared.fault.WordsFault.TheVariants.{Form, NoMemory}
use Rattle.rx_words.specs.Read.{ReadsParts}
use Rattle.clap.specs.declared.parser.matches.Found.{Found}
use Rattle.rx_words.specs.App.{app, sub_shape}
use Rattle.rx_words.proofs.Walks.{EachUtf8, Gives, id_of}
use Rattle.rx_words.proofs.Top.{AppVerdict, app_verdict, app_simple, app_simple_and_free}

-- ---- the command that the code builds

pub sets_no_binary_name : (a b : Command) (s : App) → fields_of b ≡ record (fields_of a) { no_binary_name = true } → app_of a ≡ s → app_of b ≡ on_top (λ x. record x { no_binary_name = true }) s
sets_no_binary_name a b s e h = ap app_of_fields e ∙ ap (on_top (λ x. record x { no_binary_name = true })) h

pub sets_no_help_flag : (a b : Command) (s : App) → fields_of b ≡ record (fields_of a) { disable_help_flag = true } → app_of a ≡ s → app_of b ≡ on_top (λ x. record x { disable_help_flag = true }) s
sets_no_help_flag a b s e h = ap app_of_fields e ∙ ap (on_top (λ x. record x { disable_help_flag = true })) h

pub sets_no_help_subcommand : (a b : Command) (s : App) → fields_of b ≡ record (fields_of a) { disable_help_subcommand = true } → app_of a ≡ s → app_of b ≡ on_top (λ x. record x { disable_help_subcommand = true }) s
sets_no_help_subcommand a b s e h = ap app_of_fields e ∙ ap (on_top (λ x. record x { disable_help_subcommand = true })) h

pub sets_no_version_flag : (a b : Command) (s : App) → fields_of b ≡ record (fields_of a) { disable_version_flag = true } → app_of a ≡ s → app_of b ≡ on_top (λ x. record x { disable_version_flag = true }) s
sets_no_version_flag a b s e h = ap app_of_fields e ∙ ap (on_top (λ x. record x { disable_version_flag = true })) h

pub sets_required : (a b : Command) (s : App) → fields_of b ≡ record (fields_of a) { subcommand_required = true } → app_of a ≡ s → app_of b ≡ on_top (λ x. record x { subcommand_required = true }) s
sets_required a b s e h = ap app_of_fields e ∙ ap (on_top (λ x. record x { subcommand_required = true })) h

pub adds : (old sub new : Command) (a : App) (command : CommandName) → AddsSubcommand old sub new → (fields_of sub).has_globals ≡ false → app_of old ≡ a → shape_of sub ≡ sub_shape command
    → app_of new ≡ with_subcommand a (sub_shape command)
adds old sub new a command h local e s = h.shape local ∙ ap₂ with_subcommand e s

-- ---- names

pub named_none : (word : Text) → bytes_eq (codes "check") word ≡ false → bytes_eq (codes "decode") word ≡ false → bytes_eq (codes "encode") word ≡ false → bytes_eq (codes "run") word ≡ false
    → bytes_eq (codes "load") word ≡ false → None ≡ command_named word
named_none word c d e r l = sym (λ i. cond (c i) (Some Check) (cond (d i) (Some Decode) (cond (e i) (Some Encode) (cond (r i) (Some Run) (cond (l i) (Some Load) None)))))

named_itself : (command : CommandName) → command_named (name_of command) ≡ Some command
named_itself Check = refl
named_itself Decode = refl
named_itself Encode = refl
named_itself Run = refl
named_itself Load = refl

-- ---- the words are text

pub each_utf8 : {Z : Type 0} (words : List (String Z)) → EachUtf8 (map string_bytes words)
each_utf8 [] = tt
each_utf8 (word ∷ rest) = (IsUtf8-string_bytes word, each_utf8 rest)

-- ---- a refusal

pub refused : (words : List Text) (a : App) (e : Error) → EachUtf8 words → a ≡ app → (is_simple_and_free a ≡ true → HasKind (fault_of a words) e) → (kind_of e ≡ kind.OutOfMemory → ⊥) → parts_of words ≡ None
refused words a e u is h other = go (parts_of words) (app_verdict words u)
  where
    go : (o : Option (CommandName × Given)) → AppVerdict o words → o ≡ None
    go None v = refl
    go (Some p) v =
        let has = h (ap is_simple_and_free is ∙ app_simple_and_free) in
        let none : fault_of a words ≡ [] = ap (λ x. fault_of x words) is ∙ v.0 in
        absurd (elim has as (λ _. ⊥) [ inl m ↦ other m | inr k ↦ subst (λ (x : Kinds). IsAmong (kind_of e) x) none k ])

-- ---- words that are taken

pub record Taken (words : List Text) (m : ArgMatches) : Type 0 where
  pub command : CommandName
  pub given : Given
  pub parts : parts_of words ≡ Some (command, given)
  pub rows : List Row
  pub found : subcommand_rows_of m ≡ Some (name_of command, rows)
  pub gives : Gives given rows

pub taken : (words : List Text) (a : App) (m : ArgMatches) → EachUtf8 words → a ≡ app → (is_simple_and_free a ≡ true → fault_of a words ≡ []) → HasMatchesOf a words m → Taken words m
taken words a m u is free matches = go (parts_of words) refl (app_verdict words u)
  where
    go : (o : Option (CommandName × Given)) → parts_of words ≡ o → AppVerdict o words → Taken words m
    go None e v = absurd (v (ap (λ x. fault_of x words) (sym is) ∙ free (ap is_simple_and_free is ∙ app_simple_and_free)))
    go (Some p) e v = record {
      command = p.0;
      given = p.1;
      parts = e;
      rows = v.1;
      found = (matches (ap is_simple is ∙ app_simple)).1 ∙ ap (λ x. subcommand_of x words) is ∙ v.2;
      gives = v.3;
    }

name_in_rows : {A : Type 0} (f : A → Text) (g : A → List Row) (o : Option A) → option_map f o ≡ option_map (λ (p : Text × List Row). p.0) (option_map (λ x. (f x, g x)) o)
name_in_rows f g None = refl
name_in_rows f g (Some x) = refl

abbrev pub or_nothing : {A : Type 0} → A → Option A → A
or_nothing d None = d
or_nothing d (Some x) = x

pub names_command : (words : List Text) (m : ArgMatches) (t : Taken words m) (name : Text) → Some name ≡ subcommand_name_of m → command_named name ≡ Some t.command
names_command words m t name e =
    let same = e ∙ name_in_rows _ _ (out-ArgMatches m).subcommand ∙ ap (option_map (λ (p : Text × List Row). p.0)) t.found in
    ap command_named (ap (or_nothing []) same) ∙ named_itself t.command

abbrev pub the_rows : Option (List Row) → List Row
the_rows None = []
the_rows (Some rows) = rows

pub given_read : (words : List Text) (m : ArgMatches) (t : Taken words m) (f : Found) → Some (rows_of f) ≡ option_map (λ (p : Text × List Row). p.1) (subcommand_rows_of m)
    → (slot : Slot) → first_value f (id_of slot) ≡ value_at slot t.given
given_read words m t f e slot =
    let same : rows_of f ≡ t.rows = ap the_rows (e ∙ ap (option_map (λ (p : Text × List Row). p.1)) t.found) in
    first_value-rows f (id_of slot) ∙ ap (first_of (id_of slot)) same ∙ (t.gives slot).0

pub err_reads : (parts : Option (CommandName × Given)) (f : WordsFault) → (f ≡ Form → parts ≡ None) → ReadsParts parts (Err f)
err_reads parts Form h = h refl
err_reads parts NoMemory h = tt
