-- What the trial of smoothing promises, and its laws. Proved.
pub mod Trial
