-- What is kept of the events that were read so far.
use Rattle.std.specs.Prelude.{◌≡◌, ◌≤◌, ℕ, List, length, take, Some, Vec}
use Rattle.std.specs.HashMap.{HashMap}
use Rattle.wdf_base.specs.declared.plan.Plan.{Plan}
use Rattle.wdf_base.specs.declared.event.Event.{Event}
use Rattle.wdf_laws.specs.declared.sign.Sign.{Sign}
use Rattle.wdf_laws.specs.declared.sign.Sign.TheVariants as sign
use Rattle.wdf_laws.specs.Words.{times}
use Rattle.check_past.specs.declared.signs.Signs.{Signs}
use Rattle.check_past.specs.declared.lists.Lists.{Lists}
use Rattle.check_past.specs.Maps.{number_at, flag_at, group_at}
use Rattle.check_past.specs.Keys.{number_of}
use Rattle.check_past.specs.Last.{last, stood}
use Rattle.check_past.specs.Groups.{arrived_for, takings_for, children_of}
use Rattle.check_past.specs.Order.{tail_entry, tail_number, heads}
use Rattle.check_past.specs.Kin.{Whole}
use Rattle.check_past.specs.Past.{device_of_interrupt}

-- when each sign came last, what stood then, and how many references were taken and given back
pub record AreSigns (plan : Plan) (all : List Event) (number : ℕ) (s : Signs) : Type 0 where
  pub last_is : (p : Sign) → number_of s.lasts p ≡ last p all number
  pub up_is : (d : ℕ) → flag_at s.up d ≡ stood (sign.QueuesUp d) (sign.Entered d) (sign.NotEntered d) all number
  pub enabled_is : (i d : ℕ) → device_of_interrupt plan (Some i) ≡ Some d → flag_at s.enabled i ≡ stood (sign.Enabled i) (sign.Entered d) (sign.NotEntered d) all number
  pub referenced_is : (o : ℕ) → number_at s.referenced o ≡ times (sign.Referenced o) (take number all)
  pub dereferenced_is : (o : ℕ) → number_at s.dereferenced o ≡ times (sign.Dereferenced o) (take number all)

-- the lists by device and by queue
pub record AreLists (plan : Plan) (all : List Event) (number : ℕ) (l : Lists) : Type 0 where
  pub arrivals_are : (d : ℕ) → group_at l.arrivals d ≡ arrived_for all d number
  pub takings_are : (d : ℕ) → group_at l.takings d ≡ takings_for plan all d number
  pub tail_entry_is : (q : ℕ) → number_at l.tail_entries q ≡ tail_entry all q number
  pub tail_number_is : (q : ℕ) → number_at l.tail_numbers q ≡ tail_number all q number
  pub heads_are : (q : ℕ) → group_at l.heads q ≡ heads all q number

-- all that is kept of the first events, with the children of each object
pub record IsPast {Z S : Type 0} (kin : Whole) (children : HashMap ℕ (Vec ℕ Z) S) (number : ℕ) (s : Signs) (l : Lists) : Type 0 where
  pub within : number ≤ length kin.all
  pub children_are : (o : ℕ) → group_at children o ≡ children_of kin.plan kin.all o
  pub signs_are : AreSigns kin.plan kin.all number s
  pub lists_are : AreLists kin.plan kin.all number l
