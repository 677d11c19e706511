use Rattle.std.proofs.Common.{ap, true, codes, ◌≡◌, ◌∙◌}
use Rattle.clap.specs.Words.{App, Shape, app_of, new_app}
use Rattle.clap.specs.Simple.{app_of_fields, on_top}
use Rattle.vvp_words.proofs.command.bare_command.Goals as goal

abbrev without_name : App → App
without_name = on_top (λ (s : Shape). record s { no_binary_name = true })

abbrev without_help : App → App
without_help = on_top (λ (s : Shape). record s { disable_help_flag = true })

abbrev without_version : App → App
without_version = on_top (λ (s : Shape). record s { disable_version_flag = true })

pub returns : goal.returns
returns c =
    let name_is : app_of c.no_binary_name.result ≡ without_name (new_app (codes "vvp")) = ap app_of_fields c.no_binary_name.ensures ∙ ap without_name c.new.ensures.app in
    let help_is : app_of c.disable_help_flag.result ≡ without_help (without_name (new_app (codes "vvp"))) = ap app_of_fields c.disable_help_flag.ensures ∙ ap without_help name_is in
    ap app_of_fields c.disable_version_flag.ensures ∙ ap without_version help_is
