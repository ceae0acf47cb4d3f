-- What is asked of frames and of requests.
use Rattle.std.specs.Prelude.{ℕ, Bool, false, ◌==◌, ◌&&◌, ◌||◌}
use Rattle.wdf_base.specs.declared.plan.Plan.{Plan}
use Rattle.wdf_base.specs.declared.frame.Frame.{Frame}
use Rattle.wdf_base.specs.declared.object.Place.{Place}
use Rattle.wdf_base.specs.declared.object.Place.TheVariants as place
use Rattle.wdf_base.specs.Same.{same_callback}
use Rattle.wdf_base.specs.Places.{is_returning_to, is_sent_to}
use Rattle.wdf_model.specs.declared.entries.Request.{Request}
use Rattle.wdf_model.specs.Plans.{is_target_of, target_of}
use Rattle.wdf_model.specs.parts.Requests.{place_of, request_of}
use Rattle.wdf_model.specs.parts.Power.{resume_due}
use Rattle.wdf_model.specs.State.{State, is_held_from, waits_for}
use Rattle.wdf_model.specs.rules.Starts.{is_unfinished_at}
use Rattle.wdf_causes.specs.declared.asked.FrameTest.{FrameTest}
use Rattle.wdf_causes.specs.declared.asked.FrameTest.TheVariants as frame_test
use Rattle.wdf_causes.specs.declared.asked.RequestTest.{RequestTest}
use Rattle.wdf_causes.specs.declared.asked.RequestTest.TheVariants as request_test

abbrev pub is_so_of_frame : FrameTest → Frame → Bool
is_so_of_frame (frame_test.On o) frame = frame.object.id.0 == o.0
is_so_of_frame (frame_test.WaitsFor o) frame = waits_for o.0 frame.pending
is_so_of_frame (frame_test.Runs c d) frame = same_callback frame.callback c && frame.device.id.0 == d.0

abbrev pub is_target_at : Plan → ℕ → ℕ → Bool
is_target_at plan d t = is_target_of d (target_of plan t)

abbrev pub is_sent_from : Plan → ℕ → Place → Bool
is_sent_from plan d (place.Sent t) = is_target_at plan d t.0
is_sent_from plan d _ = false

-- a request that arrived at a device and isn't done, or that is sent to a target of the device
abbrev pub is_left_at : Plan → ℕ → Request → Bool
is_left_at plan d r = is_unfinished_at d r || is_sent_from plan d r.place

abbrev pub is_so_of_request : {A : Type 0} → Plan → State A → RequestTest → ℕ → Bool
is_so_of_request plan S (request_test.HeldFrom q) r = is_held_from S q.0 r
is_so_of_request plan S (request_test.ResumeDue q) r = is_held_from S q.0 r && resume_due S.power r
is_so_of_request plan S (request_test.ReturningTo q) r = is_returning_to q.0 (place_of S.requests r)
is_so_of_request plan S (request_test.SentTo t) r = is_sent_to t.0 (place_of S.requests r)
is_so_of_request plan S (request_test.LeftAt d) r = is_left_at plan d.0 (request_of S.requests r)
