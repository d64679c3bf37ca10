use Rattle.std.proofs.Common.{refl}
use Rattle.std.proofs.lemmas.Result.{IfOk-weaker}
use Rattle.rx_words.specs.App.{app, sub_shape}
use Rattle.rx_words.specs.declared.line.CommandName.TheVariants.{Check, Decode, Encode, Run, Load}
use Rattle.rx_words.proofs.FromClap.{adds, sets_no_binary_name, sets_no_help_flag, sets_no_help_subcommand, sets_no_version_flag, sets_required}
use Rattle.rx_words.proofs.line.application.Goals as goal

pub returns : goal.returns
returns c =
    let bare = sets_required _ _ _ c.subcommand_required.ensures (sets_no_version_flag _ _ _ c.disable_version_flag.ensures (sets_no_help_subcommand _ _ _ c.disable_help_subcommand.ensures
    (sets_no_help_flag _ _ _ c.disable_help_flag.ensures (sets_no_binary_name _ _ _ c.no_binary_name.ensures c.new.ensures.app)))) in
    let one = adds _ _ _ _ Check c.in_ok-subcommand-2.ensures c.in_ok-subcommand.ensures.local bare (c.in_ok-subcommand.ensures.shape Check refl) in
    let two = adds _ _ _ _ Decode c.in_ok-subcommand-4.ensures c.in_ok-subcommand-3.ensures.local one (c.in_ok-subcommand-3.ensures.shape Decode refl) in
    let three = adds _ _ _ _ Encode c.in_ok-subcommand-6.ensures c.in_ok-subcommand-5.ensures.local two (c.in_ok-subcommand-5.ensures.shape Encode refl) in
    let four = adds _ _ _ _ Run c.in_ok-subcommand-8.ensures c.in_ok-subcommand-7.ensures.local three (c.in_ok-subcommand-7.ensures.shape Run refl) in
    IfOk-weaker c.subcommand-10.result _ _ (λ r h. adds _ _ r _ Load h c.in_ok-subcommand-9.ensures.local four (c.in_ok-subcommand-9.ensures.shape Load refl)) c.subcommand-10.ensures
