mod From
mod Hindered
mod Words
