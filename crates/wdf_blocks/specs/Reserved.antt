-- The words that no line may declare, as they are looked for.
use Rattle.std.specs.Prelude.{Bool, ℕ, ◌&&◌, ◌||◌, nat_lt, List, length, take, drop, codes}
use Rattle.std.specs.Option.{is_some}
use Rattle.std.specs.List.{list_all}
use Rattle.std.specs.Char.{is_ascii_digit}
use Rattle.std.specs.Str.{bytes_eq}
use Rattle.wdf_base.specs.Words.{status_of}
use Rattle.wdf_scene.specs.Words.{context_of}

-- an actor of the trace, or the name of the driver object or of requests
abbrev pub is_actor_word : List ℕ → Bool
is_actor_word n =
    bytes_eq n (codes "req") || (bytes_eq n (codes "fw") || (bytes_eq n (codes "clock") || (bytes_eq n (codes "pnp") || bytes_eq n (codes "driver"))))

-- `cpu` and digits after it
abbrev pub is_cpu_with_digits : List ℕ → Bool
is_cpu_with_digits n =
    bytes_eq (take 3 n) (codes "cpu") && list_all is_ascii_digit (drop 3 n)

-- `cpu` with digits
abbrev pub is_processor_word : List ℕ → Bool
is_processor_word n = nat_lt 3 (length n) && is_cpu_with_digits n

-- a status, a part of the running callback, or one of these: so the look-up goes, and it finds wdf_base's reserved words
unfoldable pub is_refused_word : List ℕ → Bool
is_refused_word n =
    is_some (status_of n) || (is_some (context_of n) || (is_actor_word n || is_processor_word n))
