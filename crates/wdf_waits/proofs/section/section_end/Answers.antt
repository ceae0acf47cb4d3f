-- The lines of each section are those below its end.
use Rattle.std.proofs.Common.{arith}
use Rattle.wdf_waits.proofs.Sections.{at_devices, at_frames, at_objects, at_requests, at_work}
use Rattle.wdf_waits.proofs.section.section_end.Goals as goal

pub returns-in-Frames-clause-lines : goal.returns-in-Frames-clause-lines
returns-in-Frames-clause-lines g c =
    at_frames c.args.plan.now g.A.Agent.meaning c.args.parts.now c.live_end.result c.args.section c.cpus.result.now c.in-Frames.is c.cpus.ensures c.live_end.ensures

pub returns-in-Requests-clause-lines : goal.returns-in-Requests-clause-lines
returns-in-Requests-clause-lines g c =
    at_requests c.args.plan.now g.A.Agent.meaning c.args.parts.now c.len.result c.args.section c.requests.result.now c.in-Requests.is c.requests.ensures c.len.ensures

pub returns-in-Devices-clause-lines : goal.returns-in-Devices-clause-lines
returns-in-Devices-clause-lines g c =
    at_devices c.args.plan.now g.A.Agent.meaning c.args.parts.now _ c.args.section c.in-Devices.is (omega arith)

pub returns-in-Objects-clause-lines : goal.returns-in-Objects-clause-lines
returns-in-Objects-clause-lines g c =
    at_objects c.args.plan.now g.A.Agent.meaning c.args.parts.now c.len-in-Objects.result c.args.section c.tree.result.now c.in-Objects.is c.tree.ensures c.len-in-Objects.ensures

pub returns-in-Work-clause-lines : goal.returns-in-Work-clause-lines
returns-in-Work-clause-lines g c =
    at_work c.args.plan.now g.A.Agent.meaning c.args.parts.now c.len-in-Work.result c.args.section c.tree-in-Work.result.now c.in-Work.is c.tree-in-Work.ensures c.len-in-Work.ensures
