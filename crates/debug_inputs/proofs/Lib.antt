mod NameIndex
mod FirstNamed
mod LineTexts
mod KeptValues
mod ListedParameters
mod RowsSoFar
mod LinesRead
