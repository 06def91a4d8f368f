mod Doubling
mod Offsetting
