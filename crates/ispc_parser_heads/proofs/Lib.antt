pub mod InsideHeads
pub mod HeadsSound
pub mod HeadsComplete
pub mod LabelLaws
