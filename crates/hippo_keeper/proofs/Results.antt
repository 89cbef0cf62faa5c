-- Results whose other type is given.
use Rattle.std.proofs.Common.{Result, Ok, Err, OnOk, OnErr}

abbrev pub err_of : (T : Type 0) → {E : Type 0} → E → Result T E
err_of T fault = Err fault

abbrev pub ok_of : {T : Type 0} → (E : Type 0) → T → Result T E
ok_of E value = Ok value

abbrev pub well : (E : Type 0) → Result (Unit {0}) E
well E = Ok tt

-- what always holds also holds on an error
pub on_err_from : {T E : Type 0} (result : Result T E) (P : Type 0) → P → OnErr result P
on_err_from (Ok value) P holds = tt
on_err_from (Err fault) P holds = holds

-- what always holds also holds on success
pub on_ok_from : {T E : Type 0} (result : Result T E) (P : Type 0) → P → OnOk result P
on_ok_from (Ok value) P holds = holds
on_ok_from (Err fault) P holds = tt
