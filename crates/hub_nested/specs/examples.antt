pub mod LiftedProfiles
