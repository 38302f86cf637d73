-- What holds of jobs: what a log and a history are with one more entry, what a job alone looks at
-- and makes until it is finished, and what it leaves in a world of others.
pub mod Exact
pub mod Finishing
pub mod Histories
pub mod Logs
pub mod LoneJobs
pub mod Looking
pub mod Making
pub mod Roots
pub mod Untouched
pub mod Seen
