-- Facts of an answer, joined.
use Rattle.std.specs.Prelude.{Result, Ok, Err, OnOk, OnErr}

pub on_ok_both : {T E : Type 0} (r : Result T E) {A B C : Type 0} → (A → B → C) → OnOk r A → OnOk r B → OnOk r C
on_ok_both (Ok x) join first second = join first second
on_ok_both (Err e) join first second = tt

pub on_ok_one : {T E : Type 0} (r : Result T E) {A B : Type 0} → (A → B) → OnOk r A → OnOk r B
on_ok_one (Ok x) more fact = more fact
on_ok_one (Err e) more fact = tt

pub on_err_one : {T E : Type 0} (r : Result T E) {A B : Type 0} → (A → B) → OnErr r A → OnErr r B
on_err_one (Ok x) more fact = tt
on_err_one (Err e) more fact = more fact
