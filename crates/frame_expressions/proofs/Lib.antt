mod Rows
mod StoreRows
