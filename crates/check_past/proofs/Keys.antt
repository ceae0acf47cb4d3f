-- What is noted at the key of a sign.
use Rattle.std.proofs.Common.{◌≡◌, ℕ, Bool, true, false, ◌&&◌, ◌||◌, cond, if◌then◌else◌, nat_eq, Option, Some, None, refl, sym, ◌∙◌}
use Rattle.std.specs.Option.{is_some, unwrap_or}
use Rattle.std.proofs.Math.Bool.{and-false, and-true}
use Rattle.wdf_base.specs.declared.event.Event.{Event}
use Rattle.wdf_laws.specs.declared.sign.Sign.{Sign}
use Rattle.wdf_laws.specs.declared.sign.Sign.TheVariants as sign
use Rattle.wdf_laws.specs.declared.sign.Taking.{Taking}
use Rattle.wdf_laws.specs.Events.{is_id}
use Rattle.wdf_laws.specs.Signs.{is_taking_of, shows}
use Rattle.check_past.specs.Maps.{or_zero}
use Rattle.check_past.specs.declared.key.Kind.{Kind}
use Rattle.check_past.specs.Keys.{single, taking, key_of, same_key, is_key_of, noted, noted_each, key_in, key_in_taking, keys_of}

-- what is there after a number is put, or not
pub put_or_kept : (b : Bool) (n : ℕ) (kept : Option ℕ) → or_zero (cond b (Some n) kept) ≡ (if b then n else or_zero kept)
put_or_kept true n kept = refl
put_or_kept false n kept = refl

-- what may be there has this sign's key where it is there, and its key is that
id_is : (s : Sign) (kind : Kind) (id : Option ℕ) → is_key_of s (key_in kind id) ≡ (same_key (single kind (unwrap_or id 0)) (key_of s) && is_some id)
unfolding is_key_of
id_is s kind None = sym (and-false _)
id_is s kind (Some x) = sym (and-true _)

abbrev no_taking : Taking
no_taking = record { request = 0; queue = 0 }

taking_is : (s : Sign) (taken : Option Taking) → is_key_of s (key_in_taking taken) ≡ (same_key (taking (unwrap_or taken no_taking).request (unwrap_or taken no_taking).queue) (key_of s) && is_some taken)
unfolding is_key_of
taking_is s None = sym (and-false _)
taking_is s (Some t) = sym (and-true _)

by_id : (x : ℕ) (o : Option ℕ) → ((nat_eq (unwrap_or o 0) x && true) && is_some o) ≡ is_id x o
by_id x None = and-false _
by_id x (Some y) = and-true _ ∙ and-true _

by_taking : (r q : ℕ) (o : Option Taking) → ((nat_eq (unwrap_or o no_taking).request r && nat_eq (unwrap_or o no_taking).queue q) && is_some o) ≡ is_taking_of r q o
by_taking r q None = and-false _
by_taking r q (Some t) = and-true _

either : (a b : Bool) (n kept : ℕ) → (if b then n else (if a then n else kept)) ≡ (if (a || b) then n else kept)
either true true n kept = refl
either true false n kept = refl
either false true n kept = refl
either false false n kept = refl

-- at a sign the number is noted where the event shows it
pub sign_noted : (s : Sign) (e : Event) (n kept : ℕ) → noted_each (keys_of e) n s kept ≡ (if shows s e then n else kept)
unfolding noted noted_each
sign_noted (sign.TakingFrom r q) e n kept = simp (id_is, taking_is, by_taking)
sign_noted (sign.Entry r) e n kept = simp (id_is, taking_is, by_id) (either _ _ n kept)
sign_noted (sign.NotEntered d) e n kept = simp (id_is, taking_is, by_id) (either _ _ n kept)
sign_noted _ e n kept = simp (id_is, taking_is, by_id)
