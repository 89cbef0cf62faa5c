-- A value paired with the result of a check.
use Rattle.std.specs.Prelude.{Result, Ok, Err}
use Rattle.hippo_model.specs.declared.name_fault.NameFault.{NameFault}

abbrev pub paired : {A B : Type 0} → A → Result B NameFault → Result (A × B) NameFault
paired first (Ok second) = Ok (first, second)
paired first (Err fault) = Err fault
