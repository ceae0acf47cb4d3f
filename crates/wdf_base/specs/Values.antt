-- Tests of a value, and of an argument of a call.
use Rattle.std.specs.Prelude.{Bool, false, ℕ}
use Rattle.wdf_base.specs.Same.{same_value}
use Rattle.wdf_base.specs.declared.call.Arg.{Arg}
use Rattle.wdf_base.specs.declared.call.Arg.TheVariants.{Val, Class}
use Rattle.wdf_base.specs.declared.value.Status.TheVariants as status
use Rattle.wdf_base.specs.declared.value.Value.{Value}
use Rattle.wdf_base.specs.declared.value.Value.TheVariants.{Num, Stat}

-- a callback ended with SUCCESS, or a call's answer is SUCCESS
abbrev pub is_success : Value → Bool
is_success v = same_value v (Stat status.Success)

-- a value is the number n
abbrev pub is_number : Value → ℕ → Bool
is_number v n = same_value v (Num n)

-- an answer is the number 1
abbrev pub is_one : Value → Bool
is_one v = is_number v 1

-- an argument is the number n; never a class
abbrev pub arg_is : Arg → ℕ → Bool
arg_is (Val v) n = is_number v n
arg_is (Class c) n = false
