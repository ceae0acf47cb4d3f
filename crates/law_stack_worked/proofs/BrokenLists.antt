-- Lists made by hand break the laws on stacks: computed.
use Rattle.std.proofs.Common.{refl}
use Rattle.law_stack.specs.Words.{passings, works}
use Rattle.law_stack_worked.specs.Broken.{BreaksOrderLaw, BreaksRequestLaw, arrives_unsent, arrives_twice, done_before_arrival, done_with_another_status, done_before_completion, starts_from_the_top, removed_from_the_bottom}
use Rattle.law_stack_worked.specs.StackOrders.{starts_from_the_bottom_plan, the_middle_device_is_removed_plan}
use Rattle.law_stack_worked.specs.StackRequests.{status_comes_up_plan}

pub arrives_unsent_breaks : BreaksRequestLaw status_comes_up_plan arrives_unsent 3
unfolding passings works
arrives_unsent_breaks = (refl, refl)

pub arrives_twice_breaks : BreaksRequestLaw status_comes_up_plan arrives_twice 5
unfolding passings works
arrives_twice_breaks = (refl, refl)

pub done_before_arrival_breaks : BreaksRequestLaw status_comes_up_plan done_before_arrival 4
unfolding passings works
done_before_arrival_breaks = (refl, refl)

pub done_with_another_status_breaks : BreaksRequestLaw status_comes_up_plan done_with_another_status 10
unfolding passings works
done_with_another_status_breaks = (refl, refl)

pub done_before_completion_breaks : BreaksRequestLaw status_comes_up_plan done_before_completion 6
unfolding passings works
done_before_completion_breaks = (refl, refl)

pub starts_from_the_top_breaks : BreaksOrderLaw starts_from_the_bottom_plan starts_from_the_top 0
unfolding passings works
starts_from_the_top_breaks = (refl, refl)

pub removed_from_the_bottom_breaks : BreaksOrderLaw the_middle_device_is_removed_plan removed_from_the_bottom 13
unfolding passings works
removed_from_the_bottom_breaks = (refl, refl)
