-- The formats of the command line, computed by evaluation. The example's name says what it shows.
use Rattle.std.proofs.Common.{◌≡◌, None, refl, codes}
use Rattle.hippo_program_args.specs.Arguments.{format_named}

formats_have_names_in_lower_case : format_named (codes "JSON") ≡ None
formats_have_names_in_lower_case = refl
