pub mod AnswersFollow
pub mod DoneCommands
mod Displays
mod ListedMoments
pub mod MomentLaws
mod PieceLaws
mod StepsBack
