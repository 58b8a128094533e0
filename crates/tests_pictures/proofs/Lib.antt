mod RunRows
mod PageRows
