-- What holds of a result, by what is known of it.
use Rattle.std.specs.Prelude.{IfErr, OnOk, Result, Ok, Err}

-- two things that are known where there was
pub ok_both : {T E A B C : Type 0} (result : Result T E) → OnOk result A → OnOk result B → (A → B → C) → OnOk result C
ok_both (Ok x) a b both = both a b
ok_both (Err e) a b both = tt

-- one that is
pub ok_one : {T E A B : Type 0} (result : Result T E) → OnOk result A → (A → B) → OnOk result B
ok_one (Ok x) a so = so a
ok_one (Err e) a so = tt

-- one that is known of an error
pub by_one : {T E : Type 0} {A P : E → Type 0} (result : Result T E) → IfErr result A → ((e : E) → A e → P e) → IfErr result P
by_one (Ok x) a so = tt
by_one (Err e) a so = so e a
