mod CutLines
mod Gathering
mod LineAnswers
mod PieceAnswers
mod SessionLines
mod TurnRows
mod Turns
